use Rattle.std.proofs.Common.{string_bytes, take}
use Rattle.std.specs.List.{AllZip}
use Rattle.record_faults.specs.declared.faults.RecordFault.{RecordFault}
use Rattle.extension_faults.specs.Judged.{TellsFrom}
use Rattle.extension_faults.proofs.judging.lines_of_whole.Given as goal

-- those so far are told
abbrev pub invariant-loop-fault : goal.invariant-loop-fault
invariant-loop-fault l = AllZip (λ (f : RecordFault) line. TellsFrom l.found.lines.items f.place (string_bytes line)) (take l.fault-index l.faults) l.lines.items
