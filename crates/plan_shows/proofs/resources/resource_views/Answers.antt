use Rattle.std.proofs.Common.{refl}
use Rattle.plan_shows.proofs.Unloaded.{no_resources}
use Rattle.plan_shows.proofs.resources.resource_views.Goals as goal

pub returns-in-None-clause-views : goal.returns-in-None-clause-views
returns-in-None-clause-views c = rw c.new.ensures.items (no_resources c.args.plan.now.plan.contents (c.in-None.ensures.none refl))
