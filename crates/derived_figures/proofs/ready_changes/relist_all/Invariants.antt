use Rattle.std.proofs.Common.{◌≡◌, ◌+◌, drop, length}
use Rattle.plan_model.specs.Contents.{Contents}
use Rattle.derived_figures.specs.ByStatuses.{AreEntriesBy}
use Rattle.derived_figures.specs.Entries.{CanBeRelisted}
use Rattle.derived_figures.specs.Overwritten.{overwritten}
use Rattle.derived_figures.proofs.ready_changes.relist_all.Given as goal

-- the list goes by the statuses that are written so far, and to write what is left makes of them what all make of the first ones
abbrev pub invariant-loop-index : goal.invariant-loop-index
invariant-loop-index l = record {
  left : overwritten (drop l.index l.to) l.statuses ≡ overwritten l.to l.fn.statuses;
  size : length l.statuses ≡ length l.fn.statuses;
  listed : (P : Contents) → CanBeRelisted P l.fn.statuses l.fn.ready l.to l.entries → AreEntriesBy P l.statuses l.ready.entries;
  room : length l.ready.entries + l.ready.room ≡ length l.fn.ready.entries + l.fn.ready.room;
}
