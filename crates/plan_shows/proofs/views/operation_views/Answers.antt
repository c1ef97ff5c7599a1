use Rattle.plan_shows.proofs.OperationLists.{are_of_occurrence}
use Rattle.plan_shows.proofs.views.operation_views.Goals as goal

pub returns : goal.returns
returns c = rw c.in_ok-views.ensures (are_of_occurrence c.args.plan.now.plan.contents c.clock.ensures.sound.contents.valid c.ops.result c.ops.ensures c.args.occurrence.now)
