use Rattle.plan_shows.proofs.OperationLists.{are_started_on}
use Rattle.plan_shows.proofs.views.started_views_on.Goals as goal

pub returns : goal.returns
returns c = rw c.in_ok-views.ensures (are_started_on c.args.plan.now.plan.contents c.clock.ensures.sound.contents.valid c.ops.result c.ops.ensures c.args.workstation.now)
