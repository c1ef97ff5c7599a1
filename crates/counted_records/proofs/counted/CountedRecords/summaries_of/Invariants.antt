use Rattle.std.proofs.Common.{◌≡◌, ◌+◌, ◌≤◌}
use Rattle.std.specs.FinMap.{entries}
use Rattle.plan_status.proofs.SoFar.{AreSoFar}
use Rattle.plan_status.specs.Summaries.{HasSummary}
use Rattle.counted_records.proofs.counted.CountedRecords.summaries_of.Given as goal

-- the rows below the place are gone through, with a look at each
abbrev pub invariant-loop-place : goal.invariant-loop-place
invariant-loop-place l = record {
  contents : l.self.contents ≡ l.fn.self.contents;
  fewest : l.fn.self.looks ≤ l.self.looks;
  most : l.self.looks ≤ l.fn.self.looks + l.place;
  summaries : AreSoFar l.place (entries l.fn.self.contents.operations) l.summaries.items (HasSummary l.fn.self.contents);
}
