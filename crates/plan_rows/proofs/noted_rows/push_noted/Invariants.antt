use Rattle.std.specs.Prelude.{◌≡◌, ◌+◌, ◌*◌, ◌≤◌, ℕ, Bool, List, count_by}
use Rattle.std.specs.List.Sorted.{IsStrictlySortedBy}
use Rattle.std.specs.Ordering.{nat_cmp}
use Rattle.plan_records.specs.declared.PlanRow.{PlanRow}
use Rattle.plan_rows.proofs.DifferentRows.{IsToldTo}
use Rattle.plan_rows.proofs.noted_rows.push_noted.Given as goal
use Rattle.plan_rows.specs.Notes.{AreNotedAt}
use Rattle.plan_rows.specs.Rows.{rows_of}
use Rattle.plan_rows.specs.Sources.{source_with}

-- the first of the rows that are noted are added where they differ, each by its looks
abbrev pub invariant-loop-note : goal.invariant-loop-note
invariant-loop-note g l = record {
  contents : l.records.contents ≡ l.fn.records.contents;
  fewest : l.fn.records.looks ≤ l.records.looks;
  most : l.records.looks ≤ l.fn.records.looks + g.T.Noted.looks * l.note-index;
  told : (news : List PlanRow) (places : List ℕ) → IsStrictlySortedBy nat_cmp places → AreNotedAt news places l.notes → IsToldTo (rows_of (g.T.Tabled.keyed (source_with l.fn.records.contents l.columns))) news places l.note-index l.fn.rows.items l.rows.items;
  count : (p : PlanRow → Bool) → count_by p l.rows.items ≤ count_by p l.fn.rows.items + l.note-index;
}
