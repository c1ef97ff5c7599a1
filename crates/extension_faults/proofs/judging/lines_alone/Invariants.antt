use Rattle.std.proofs.Common.{string_bytes, take}
use Rattle.std.specs.List.{AllZip}
use Rattle.text_faults.specs.declared.additions.faults.PlacedFault.{PlacedFault}
use Rattle.extension_faults.specs.Judged.{TellsFrom}
use Rattle.extension_faults.proofs.judging.lines_alone.Given as goal

-- those so far are told
abbrev pub invariant-loop-fault : goal.invariant-loop-fault
invariant-loop-fault l = AllZip (λ (f : PlacedFault) line. TellsFrom l.found.read.lines.items f.place (string_bytes line)) (take l.fault-index l.faults) l.lines.items
