use Rattle.std.proofs.Common.{take}
use Rattle.derived_figures.proofs.StandingsMoved.{AreUpdatedAt}
use Rattle.derived_figures.proofs.standing_changes.update_standings.Given as goal

-- the standings at the places so far are in line
abbrev pub invariant-loop-place : goal.invariant-loop-place
invariant-loop-place l = AreUpdatedAt (take l.place-index l.places) l.wait_states l.fn.standings l.standings
