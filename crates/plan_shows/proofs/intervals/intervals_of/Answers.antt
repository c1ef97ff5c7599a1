use Rattle.plan_shows.proofs.HoursShown.{its_intervals}
use Rattle.plan_shows.proofs.intervals.intervals_of.Goals as goal

pub returns : goal.returns
returns c = its_intervals c.args.workstation.now.1 c.intervals.result.now c.intervals.ensures.intervals c.intervals.ensures.in_order
