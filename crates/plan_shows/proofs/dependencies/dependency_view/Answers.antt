use Rattle.std.proofs.Common.{refl}
use Rattle.plan_shows.proofs.dependencies.dependency_view.Goals as goal

pub returns : goal.returns
returns c = record { ends = (refl, refl); statuses = (c.status_of.ensures, c.status_of-2.ensures) }
