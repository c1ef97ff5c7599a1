use Rattle.std.proofs.Common.{sym, subst, arith, ◌+◌, ◌<◌, length, string_bytes, take}
use Rattle.std.proofs.lemmas.List.{take_all}
use Rattle.std.specs.List.{AllZip}
use Rattle.record_faults.proofs.Circling.{zip_last}
use Rattle.record_faults.specs.declared.faults.RecordFault.{RecordFault}
use Rattle.extension_faults.specs.Judged.{TellsFrom}
use Rattle.extension_faults.proofs.Lines.{zip_seen}
use Rattle.extension_faults.proofs.judging.lines_of_whole.Goals as goal

pub loop-fault-preserved : goal.loop-fault-preserved
loop-fault-preserved c =
    let xs = c.args.faults.now in
    let i = c.loop-fault.fault-index in
    let within : i < length xs = omega arith in
    subst (AllZip (λ (f : RecordFault) line. TellsFrom c.args.found.now.lines.items f.place (string_bytes line)) (take (i + 1) xs)) (sym c.in_ok-push.ensures.items)
    (zip_last (λ (f : RecordFault) line. TellsFrom c.args.found.now.lines.items f.place (string_bytes line)) xs c.loop-fault.lines.items i c.fault-item.result c.in_ok-fault_text.field-0 within c.fault-item.is c.loop-fault.invariant c.in_ok-fault_text.ensures)

pub returns : goal.returns
returns c =
    let xs = c.args.faults.now in
    zip_seen (λ (f : RecordFault). f.place) string_bytes (TellsFrom c.args.found.now.lines.items) xs c.loop-fault.lines.items
    (subst (λ ys. AllZip (λ (f : RecordFault) line. TellsFrom c.args.found.now.lines.items f.place (string_bytes line)) ys c.loop-fault.lines.items) (take_all c.loop-fault.fault-index xs (omega arith)) c.loop-fault.invariant)
