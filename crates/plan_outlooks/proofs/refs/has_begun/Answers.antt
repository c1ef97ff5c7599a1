use Rattle.std.proofs.Common.{◌⊎◌, inl, subst, Decides}
use Rattle.plan_forecast.specs.Ahead.{IsGoing}
use Rattle.plan_model.specs.Contents.{Contents}
use Rattle.plan_model.specs.Status.{HasStatus}
use Rattle.status_rules.specs.declared.Status.TheVariants.{Complete}
use Rattle.plan_outlooks.specs.Forecasts.{HasBegun}
use Rattle.plan_outlooks.proofs.Deciding.{complete_by, else_by, so_by}
use Rattle.plan_outlooks.proofs.OperationRows.{at_last}
use Rattle.plan_outlooks.proofs.refs.has_begun.Goals as goal

pub returns-then-is_going : goal.returns-then-is_going
returns-then-is_going c = λ F o lent at.
    let Q = c.args.refs.now.last.now in
    let row = at_last F c.args.refs.now lent c.args.place o at in
    let going = (c.is_going.ensures Q o c.read_for_proof.ensures.valid (c.reported_at-reported.ensures o row.0 row.1)).0 c.if-is_going.true in
    so_by (HasBegun F o) c.is_going.result c.if-is_going.true (inl (subst (λ (R : Contents). IsGoing R o) lent.last going))

pub returns-else-is_going : goal.returns-else-is_going
returns-else-is_going c = λ F o lent at.
    let Q = c.args.refs.now.last.now in
    let valid = c.read_for_proof.ensures.valid in
    let row = at_last F c.args.refs.now lent c.args.place o at in
    let is = c.reported_at-reported.ensures o row.0 row.1 in
    subst (λ (R : Contents). Decides c.is_complete.result (IsGoing R o ⊎ HasStatus R o Complete)) lent.last
    (else_by (IsGoing Q o) (HasStatus Q o Complete) c.is_going.result c.is_complete.result (c.is_going.ensures Q o valid is) c.if-is_going.false
    (complete_by Q valid o c.reported_at-reported.result.status is.status c.is_complete.result c.is_complete.ensures))
