use Rattle.std.proofs.Common.{refl}
use Rattle.plan_shows.proofs.DependenciesShown.{no_dependencies}
use Rattle.plan_shows.proofs.dependencies.dependency_views.Goals as goal

pub returns-in-None : goal.returns-in-None
returns-in-None c = rw c.new.ensures.items (no_dependencies c.args.plan.now.plan.contents c.args.occurrence.now (c.in-None.ensures.none refl))
