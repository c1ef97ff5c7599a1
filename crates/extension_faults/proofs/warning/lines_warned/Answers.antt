use Rattle.std.proofs.Common.{sym, subst, arith, ◌+◌, ◌<◌, length, string_bytes, take}
use Rattle.std.proofs.lemmas.List.{take_all}
use Rattle.std.specs.List.{AllZip}
use Rattle.record_faults.specs.declared.warnings.RecordWarning.{RecordWarning}
use Rattle.record_faults.specs.declared.warnings.Warning.TheVariants as warning
use Rattle.extension_faults.specs.Warned.{WarnsFrom}
use Rattle.extension_faults.proofs.Lines.{zip_read, zip_seen}
use Rattle.extension_faults.proofs.warning.lines_warned.Goals as goal

pub loop-warning-preserved : goal.loop-warning-preserved
loop-warning-preserved c =
    let xs = c.args.warnings.now in
    let i = c.loop-warning.warning-index in
    let within : i < length xs = omega arith in
    subst (AllZip (λ (w : RecordWarning) line. WarnsFrom c.args.found.now.lines.items w.place (string_bytes line)) (take (i + 1) xs)) (sym c.in_ok-push.ensures.items)
    (zip_read (λ (w : RecordWarning) line. WarnsFrom c.args.found.now.lines.items w.place (string_bytes line)) xs c.loop-warning.told.items i (record { place = 0; warning = warning.NeverOpens }) c.in_ok-warning_text.field-0 within
    c.loop-warning.invariant c.in_ok-warning_text.ensures)

pub returns : goal.returns
returns c =
    let xs = c.args.warnings.now in
    zip_seen (λ (w : RecordWarning). w.place) string_bytes (WarnsFrom c.args.found.now.lines.items) xs c.loop-warning.told.items
    (subst (λ ys. AllZip (λ (w : RecordWarning) line. WarnsFrom c.args.found.now.lines.items w.place (string_bytes line)) ys c.loop-warning.told.items) (take_all c.loop-warning.warning-index xs (omega arith)) c.loop-warning.invariant)
