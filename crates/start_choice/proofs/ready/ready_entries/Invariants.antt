use Rattle.std.proofs.Common.{◌+◌, ◌≤◌, length, take}
use Rattle.std.specs.FinMap.{entries}
use Rattle.start_choice.specs.SummarizedTakings.{holder_count}
use Rattle.start_choice.proofs.ReadyLists.{AreReadyBelow}
use Rattle.start_choice.proofs.ready.ready_entries.Given as goal

-- the rows below the place are gone through, and each is an entry, or may hold something, or neither
abbrev pub invariant-loop-place : goal.invariant-loop-place
invariant-loop-place l = record {
  ready : AreReadyBelow l.uncounted.contents.now (entries l.uncounted.contents.now.operations) l.place l.entries.items;
  few : length l.entries.items + holder_count (take l.place l.summaries) ≤ l.place;
}
