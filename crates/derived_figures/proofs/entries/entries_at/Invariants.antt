use Rattle.std.proofs.Common.{◌≡◌, ◌+◌, ◌≤◌, length, take, vec_capacity}
use Rattle.derived_figures.specs.UnknownPlaces.{unknown_places}
use Rattle.derived_figures.proofs.Noted.{AreNoted}
use Rattle.derived_figures.proofs.entries.entries_at.Given as goal

-- the entries of the places so far are noted, with a look at each that isn't known
abbrev pub invariant-loop-place : goal.invariant-loop-place
invariant-loop-place l = record {
  contents : l.records.contents ≡ l.fn.records.contents;
  fewest : l.fn.records.looks ≤ l.records.looks;
  most : l.records.looks ≤ l.fn.records.looks + length (unknown_places l.known_at (take l.place-index l.places));
  noted : AreNoted l.fn.records.contents l.places l.place-index l.noted.items;
  space : length l.places ≤ vec_capacity l.noted;
  within : l.place-index ≤ length l.places;
}
