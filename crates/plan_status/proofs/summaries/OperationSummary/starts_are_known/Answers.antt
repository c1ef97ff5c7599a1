use Rattle.std.proofs.Common.{◌∙◌}
use Rattle.plan_model.proofs.Taking.{takes_where_known}
use Rattle.plan_status.proofs.summaries.OperationSummary.starts_are_known.Goals as goal

pub returns : goal.returns
returns c = c.knows_starts.ensures ∙ takes_where_known c.args.self.now.attribute
