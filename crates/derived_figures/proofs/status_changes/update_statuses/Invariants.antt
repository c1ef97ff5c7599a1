use Rattle.std.proofs.Common.{◌≡◌, ◌+◌, ◌≤◌, length, take, vec_capacity}
use Rattle.derived_figures.specs.ByStatuses.{AreInLine}
use Rattle.derived_figures.proofs.Noted.{AreNoted}
use Rattle.derived_figures.proofs.StatusesMoved.{AreRestatedAt}
use Rattle.derived_figures.proofs.status_changes.update_statuses.Given as goal

-- the places so far are in line, with a look at each of them, and their entries are noted
abbrev pub invariant-loop-place : goal.invariant-loop-place
invariant-loop-place l = record {
  contents : l.records.contents ≡ l.fn.records.contents;
  fewest : l.fn.records.looks ≤ l.records.looks;
  most : l.records.looks ≤ l.fn.records.looks + l.place-index;
  in_line : AreInLine l.fn.records.contents l.statuses l.tallies l.ready.entries;
  restated : AreRestatedAt l.fn.records.contents (take l.place-index l.by.places.now) l.fn.statuses l.statuses;
  room : length l.ready.entries + l.ready.room ≡ length l.fn.ready.entries + l.fn.ready.room;
  noted : AreNoted l.fn.records.contents l.by.places.now l.place-index l.noted.items;
  space : length l.by.places.now ≤ vec_capacity l.noted;
  within : l.place-index ≤ length l.by.places.now;
}
