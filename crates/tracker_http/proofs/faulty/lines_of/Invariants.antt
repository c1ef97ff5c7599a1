use Rattle.std.proofs.Common.{string_bytes, take}
use Rattle.std.specs.List.{AllZip}
use Rattle.tracker_http.specs.Faulty.{TellsFault}
use Rattle.tracker_http.proofs.faulty.lines_of.Given as goal

-- the faults that were passed are told
abbrev pub invariant-loop-fault : goal.invariant-loop-fault
invariant-loop-fault l = AllZip (λ f line. TellsFault f (string_bytes line)) (take l.fault-index l.faults) l.lines.items
