use Rattle.std.proofs.Common.{sym, subst, arith, ◌+◌, ◌<◌, length, string_bytes, take}
use Rattle.std.proofs.lemmas.List.{take_all}
use Rattle.std.specs.List.{AllZip}
use Rattle.extension_faults.specs.declared.kinds.FaultBeside.{FaultBeside}
use Rattle.extension_faults.specs.declared.kinds.Wrong.TheVariants as wrong
use Rattle.extension_faults.specs.Judged.{TellsFrom}
use Rattle.extension_faults.proofs.Lines.{zip_read, zip_seen}
use Rattle.extension_faults.proofs.judging.lines_beside.Goals as goal

pub loop-fault-preserved : goal.loop-fault-preserved
loop-fault-preserved c =
    let xs = c.args.faults.now in
    let i = c.loop-fault.fault-index in
    let within : i < length xs = omega arith in
    subst (AllZip (λ (f : FaultBeside) line. TellsFrom c.args.found.now.lines.items f.place (string_bytes line)) (take (i + 1) xs)) (sym c.in_ok-push.ensures.items)
    (zip_read (λ (f : FaultBeside) line. TellsFrom c.args.found.now.lines.items f.place (string_bytes line)) xs c.loop-fault.lines.items i (record { place = 0; wrong = wrong.There }) c.in_ok-beside_text.field-0 within c.loop-fault.invariant
    c.in_ok-beside_text.ensures)

pub returns : goal.returns
returns c =
    let xs = c.args.faults.now in
    zip_seen (λ (f : FaultBeside). f.place) string_bytes (TellsFrom c.args.found.now.lines.items) xs c.loop-fault.lines.items
    (subst (λ ys. AllZip (λ (f : FaultBeside) line. TellsFrom c.args.found.now.lines.items f.place (string_bytes line)) ys c.loop-fault.lines.items) (take_all c.loop-fault.fault-index xs (omega arith)) c.loop-fault.invariant)
