use Rattle.std.proofs.Common.{refl}
use Rattle.plan_laws.proofs.scheduling.faults_leave_as_stops.Goals as goal

pub returns : goal.returns
returns c s t call h = (h.0, refl, refl)
