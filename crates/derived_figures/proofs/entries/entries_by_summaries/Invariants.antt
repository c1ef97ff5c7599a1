use Rattle.std.proofs.Common.{◌≤◌, length}
use Rattle.derived_figures.proofs.Noted.{AreNoted}
use Rattle.derived_figures.proofs.entries.entries_by_summaries.Given as goal

-- the entries of the places so far are there
abbrev pub invariant-loop-place : goal.invariant-loop-place
invariant-loop-place l = record {
  noted : AreNoted l.uncounted.contents.now l.places l.place-index l.found.items;
  within : l.place-index ≤ length l.places;
}
