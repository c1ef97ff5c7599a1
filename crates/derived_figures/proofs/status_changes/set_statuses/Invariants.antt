use Rattle.std.proofs.Common.{◌≡◌, ◌+◌, drop, length}
use Rattle.derived_figures.specs.ByStatuses.{AreInLine}
use Rattle.derived_figures.specs.Overwritten.{overwritten}
use Rattle.derived_figures.proofs.status_changes.set_statuses.Given as goal

-- what goes by the statuses that are written so far is in line, and to write what is left makes of them what all make of the first ones
abbrev pub invariant-loop-index : goal.invariant-loop-index
invariant-loop-index l = record {
  left : overwritten (drop l.index l.to) l.statuses ≡ overwritten l.to l.fn.statuses;
  in_line : AreInLine l.uncounted.contents.now l.statuses l.tallies l.ready.entries;
  room : length l.ready.entries + l.ready.room ≡ length l.fn.ready.entries + l.fn.ready.room;
}
