use Rattle.std.proofs.lemmas.Result.{IfOk-weaker}
use Rattle.tracker_http.proofs.faulty.report_lines.Goals as goal

pub returns : goal.returns
returns c =
    IfOk-weaker c.lines_of.result _ _ (λ lines told. record { faults = c.in_ok-faults.faults.items; exactly = c.in_ok-faults.ensures; told = rw c.deref.ensures.value at told }) c.lines_of.ensures
