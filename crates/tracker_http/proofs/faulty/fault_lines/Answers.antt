use Rattle.std.proofs.Common.{string_bytes}
use Rattle.std.proofs.lemmas.Result.{IfOk-weaker}
use Rattle.tracker_http.proofs.Faulted.{none_zipped}
use Rattle.tracker_http.specs.Faulty.{TellsFault}
use Rattle.tracker_http.proofs.faulty.fault_lines.Goals as goal

pub returns-clause-exactly : goal.returns-clause-exactly
returns-clause-exactly c =
    IfOk-weaker c.lines_of.result _ _ (λ lines told. record { faults = c.in_ok-faults.faults.items; exactly = c.in_ok-faults.ensures.exactly; told = rw c.deref.ensures.value at told }) c.lines_of.ensures

pub returns-clause-none : goal.returns-clause-none
returns-clause-none c =
    let none = c.in_ok-faults.ensures.none in
    IfOk-weaker c.lines_of.result _ _
    (λ lines told.
    let same = none_zipped string_bytes TellsFault c.in_ok-faults.faults.items lines.items (rw c.deref.ensures.value at told) in
    (λ empty. none.0 (same.1 empty), λ reads. same.0 (none.1 reads))) c.lines_of.ensures
