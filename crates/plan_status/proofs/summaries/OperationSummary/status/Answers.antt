use Rattle.std.proofs.Common.{sym, subst}
use Rattle.plan_model.specs.Status.{HasStatus}
use Rattle.plan_status.proofs.Summarized.{status_by_summary}
use Rattle.plan_status.proofs.summaries.OperationSummary.status.Goals as goal

pub returns : goal.returns
returns c P o has standing =
    subst (HasStatus P o) (sym c.status_of.ensures.table)
    (status_by_summary P o has.0 c.args.self.now c.args.standing.now.preds has.1 has.2 standing.preds)
