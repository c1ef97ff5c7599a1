use Rattle.std.proofs.Common.{◌≡◌, ◌⊎◌, ◌+◌, ◌≤◌, take}
use Rattle.std.specs.FinMap.{entries}
use Rattle.counted_records.proofs.counted.CountedRecords.rows_of.Given as goal

-- the rows before the place are there, with a look at each of them
abbrev pub invariant-loop-place : goal.invariant-loop-place
invariant-loop-place l = record {
  contents : l.self.contents ≡ l.fn.self.contents;
  most : l.self.looks ≤ l.fn.self.looks + l.place;
  least : (18446744073709551615 ≤ l.self.looks) ⊎ (l.fn.self.looks + l.place ≤ l.self.looks);
  rows : l.rows.items ≡ take l.place (entries l.fn.self.contents.operations);
}
