use Rattle.plan_laws.proofs.Schedules.{every_schedule}
use Rattle.plan_laws.proofs.scheduling.every_schedule.Goals as goal

pub returns : goal.returns
returns c = every_schedule
