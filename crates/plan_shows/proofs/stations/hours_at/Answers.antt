use Rattle.std.proofs.Common.{inl, inr, refl}
use Rattle.plan_shows.proofs.stations.hours_at.Goals as goal

pub returns-in-Some : goal.returns-in-Some
returns-in-Some c = inl (c.in-Some.interval, c.in-Some.ensures.found.0, c.in-Some.ensures.found.1, c.open_hours.ensures)

pub returns-in-None : goal.returns-in-None
returns-in-None c = inr (c.in-None.ensures.absent refl, (c.next_opening.result, c.next_opening.ensures, c.closed_hours.ensures))
