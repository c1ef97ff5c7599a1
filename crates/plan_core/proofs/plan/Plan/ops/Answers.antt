use Rattle.plan_core.proofs.FromPlace.{IsOf, all_from, no_ops, is_source_if_any}
use Rattle.plan_core.proofs.OpViews.{are_op_views}
use Rattle.plan_core.proofs.plan.Plan.ops.Goals as goal
use Rattle.plan_core.proofs.plan.Plan.ops.Goals.{After-source}
use Rattle.plan_core.specs.Views.{AreOpViews, op_views}

source : (c : After-source) → IsOf c.args.self.now.plan.contents c.source.result
source c = record { none = c.source.ensures.none; contents = c.source.ensures.contents; is_source = c.source.ensures.source }

pub new-requires : goal.new-requires
new-requires c = is_source_if_any c.args.self.now.plan.contents c.source.result (source (goal.at.new-requires c).After-source)

pub returns : goal.returns
returns c = all_from op_views AreOpViews no_ops are_op_views c.args.self.now.plan.contents c.source.result (source (goal.at.returns c).After-source) c.new.ensures
