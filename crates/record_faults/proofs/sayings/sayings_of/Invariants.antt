use Rattle.std.proofs.Common.{take}
use Rattle.record_faults.specs.Sayings.{AreSayings, texts_of}
use Rattle.record_faults.proofs.sayings.sayings_of.Given as goal

-- what the records so far say
abbrev pub invariant-loop-fields : goal.invariant-loop-fields
invariant-loop-fields l = AreSayings (texts_of (take l.fields-index l.records)) l.said.items
