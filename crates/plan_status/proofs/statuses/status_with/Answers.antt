use Rattle.std.proofs.Common.{sym, subst}
use Rattle.plan_model.specs.Status.{HasStatus}
use Rattle.plan_status.proofs.ByStanding.{status_on}
use Rattle.plan_status.proofs.statuses.status_with.Goals as goal
use Rattle.status_rules.specs.Table.{status_by}

pub returns : goal.returns
returns c P o is on standing =
    let preds = c.args.standing.now.preds in
    subst (HasStatus P o) (sym c.status_of.ensures.table)
    (subst (λ op. HasStatus P o (status_by op.mark op.held op.nop c.args.attribute preds)) (sym c.operation.view_is) (status_on P o c.args.operation.now c.args.attribute preds is on standing.preds))
