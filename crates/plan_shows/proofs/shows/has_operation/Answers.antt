use Rattle.std.proofs.Common.{◌∙◌}
use Rattle.plan_shows.proofs.Known.{told_known}
use Rattle.plan_shows.proofs.shows.has_operation.Goals as goal

pub returns : goal.returns
returns c = c.is_some.ensures ∙ told_known c.args.plan.now.plan.contents c.args.key.now c.view_op.result c.view_op.ensures.some
