use Rattle.std.proofs.Common.{subst}
use Rattle.std.specs.Prelude.{Decides}
use Rattle.plan_forecast.specs.Ahead.{IsGoing}
use Rattle.plan_model.specs.Contents.{Contents}
use Rattle.plan_outlooks.proofs.OperationRows.{at_plan}
use Rattle.plan_outlooks.proofs.refs.is_going_at.Goals as goal

pub returns : goal.returns
returns c = λ F o lent at.
    let x = c.args.refs.now in
    let is = c.reported_at.ensures o at.0 (at_plan F x lent c.args.place o at) in
    subst (λ (P : Contents). Decides c.is_going.result (IsGoing P o)) lent.plan (c.is_going.ensures x.plan.now o c.read_for_proof.ensures.valid is)
