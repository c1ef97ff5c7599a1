use Rattle.std.proofs.Common.{refl}
use Rattle.plan_shows.proofs.Unloaded.{no_workstations}
use Rattle.plan_shows.proofs.stations.workstation_views.Goals as goal

pub returns-in-None : goal.returns-in-None
returns-in-None c = rw c.new.ensures.items (no_workstations c.args.plan.now.plan (c.in-None.ensures.none refl))
