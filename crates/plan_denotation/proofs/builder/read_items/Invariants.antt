use Rattle.std.proofs.Common.{take}
use Rattle.std.specs.List.{AllZip}
use Rattle.plan_items.specs.Items.{Says}
use Rattle.plan_drafts.specs.Records.{records_of}
use Rattle.plan_denotation.proofs.builder.read_items.Given as goal

abbrev pub invariant-loop-record : goal.invariant-loop-record
invariant-loop-record l = AllZip Says (records_of (take l.record-index l.records)) l.items.items
