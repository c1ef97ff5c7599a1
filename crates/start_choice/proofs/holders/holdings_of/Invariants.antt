use Rattle.std.proofs.Common.{◌≡◌, ◌+◌, ◌≤◌, take}
use Rattle.start_choice.specs.SummarizedTakings.{holder_count}
use Rattle.start_choice.proofs.HeldRows.{AreHeldAmong}
use Rattle.start_choice.proofs.holders.holdings_of.Given as goal

-- these are the holders among the rows that are gone through, and each that may hold something was looked at
abbrev pub invariant-loop-place : goal.invariant-loop-place
invariant-loop-place l = record {
  contents : l.records.contents ≡ l.fn.records.contents;
  fewest : l.fn.records.looks ≤ l.records.looks;
  most : l.records.looks ≤ l.fn.records.looks + holder_count (take l.place l.summaries);
  held : AreHeldAmong l.fn.records.contents l.place l.holdings.held;
}
