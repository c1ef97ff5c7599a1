-- The words by which the program shows a fault.
use Rattle.std.specs.Prelude.{ℕ, List, codes}
use Rattle.command_answers.specs.declared.endings.Fault.{Fault}
use Rattle.command_answers.specs.declared.endings.Fault.TheVariants as fault

-- how a fault is shown
abbrev pub fault_text : Fault → List ℕ
fault_text fault.Encoding = codes "fault words (not UTF-8)"
fault_text fault.Words = codes "fault words"
fault_text fault.Moment = codes "fault moment"
fault_text fault.Request = codes "fault request"
fault_text fault.File = codes "fault file"
fault_text fault.Network = codes "fault network"
fault_text fault.Memory = codes "fault memory"
