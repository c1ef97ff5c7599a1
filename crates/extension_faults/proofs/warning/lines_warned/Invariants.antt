use Rattle.std.proofs.Common.{string_bytes, take}
use Rattle.std.specs.List.{AllZip}
use Rattle.record_faults.specs.declared.warnings.RecordWarning.{RecordWarning}
use Rattle.extension_faults.specs.Warned.{WarnsFrom}
use Rattle.extension_faults.proofs.warning.lines_warned.Given as goal

-- those so far are told
abbrev pub invariant-loop-warning : goal.invariant-loop-warning
invariant-loop-warning l = AllZip (λ (w : RecordWarning) line. WarnsFrom l.found.lines.items w.place (string_bytes line)) (take l.warning-index l.warnings) l.told.items
