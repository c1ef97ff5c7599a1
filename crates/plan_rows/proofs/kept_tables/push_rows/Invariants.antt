use Rattle.std.specs.Prelude.{◌≡◌, ◌+◌, ◌*◌, ◌≤◌}
use Rattle.plan_rows.proofs.AddedRows.{AreAddedTo, itself}
use Rattle.plan_rows.proofs.kept_tables.push_rows.Given as goal
use Rattle.plan_rows.specs.Rows.{rows_of}
use Rattle.plan_rows.specs.Sources.{source_with}

-- the rows at the first places are added, each by its looks
abbrev pub invariant-loop-place : goal.invariant-loop-place
invariant-loop-place g l = record {
  contents : l.records.contents ≡ l.fn.records.contents;
  fewest : l.fn.records.looks ≤ l.records.looks;
  most : l.records.looks ≤ l.fn.records.looks + g.T.Noted.looks * l.place-index;
  added : AreAddedTo itself (rows_of (g.T.Tabled.keyed (source_with l.fn.records.contents l.columns))) l.places l.place-index l.fn.rows.items l.rows.items;
}
