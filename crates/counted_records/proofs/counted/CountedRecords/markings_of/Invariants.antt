use Rattle.std.proofs.Common.{◌≡◌, ◌+◌, ◌≤◌, take, map, Some}
use Rattle.plan_changes.specs.Markings.{marking_at}
use Rattle.counted_records.proofs.counted.CountedRecords.markings_of.Given as goal

-- the markings of the operations of the keys before the index, with a look at each of these
abbrev pub invariant-loop-key : goal.invariant-loop-key
invariant-loop-key l = record {
  contents : l.self.contents ≡ l.fn.self.contents;
  fewest : l.fn.self.looks ≤ l.self.looks;
  most : l.self.looks ≤ l.fn.self.looks + l.key-index;
  marks : map (marking_at l.fn.self.contents) (take l.key-index l.keys) ≡ map Some l.marks.items;
}
