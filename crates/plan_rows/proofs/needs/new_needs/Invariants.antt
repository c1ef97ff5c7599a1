use Rattle.std.specs.Prelude.{◌≡◌, ◌+◌, ◌≤◌, [], length}
use Rattle.std.specs.FinMap.{entries}
use Rattle.plan_rows.proofs.AddedRows.{AreAddedTo}
use Rattle.plan_rows.proofs.needs.new_needs.Given as goal
use Rattle.plan_rows.specs.Rows.{needs_listed}

-- the needs of the operations at the first places are there, by a look at each
abbrev pub invariant-loop-place : goal.invariant-loop-place
invariant-loop-place l = record {
  within : l.place-index ≤ length l.place-items;
  contents : l.records.contents ≡ l.fn.records.contents;
  fewest : l.fn.records.looks ≤ l.records.looks;
  most : l.records.looks ≤ l.fn.records.looks + l.place-index;
  added : AreAddedTo needs_listed (entries l.fn.records.contents.operations) l.place-items l.place-index [] l.needs.items;
}
