use Rattle.std.specs.Prelude.{◌≡◌, ◌⊎◌, ◌+◌, ◌*◌, ◌≤◌, take}
use Rattle.plan_rows.proofs.noted_rows.note_rows.Given as goal
use Rattle.plan_rows.specs.Notes.{AreNotedAt}
use Rattle.plan_rows.specs.Rows.{rows_of}
use Rattle.plan_rows.specs.Sources.{source_with}

-- the rows at the first places are noted, each by its looks
abbrev pub invariant-loop-place : goal.invariant-loop-place
invariant-loop-place g l = record {
  contents : l.records.contents ≡ l.fn.records.contents;
  fewest : l.fn.records.looks ≤ l.records.looks;
  most : l.records.looks ≤ l.fn.records.looks + g.T.Noted.looks * l.place-index;
  least : (18446744073709551615 ≤ l.records.looks) ⊎ (l.fn.records.looks + g.T.Noted.looks * l.place-index ≤ l.records.looks);
  noted : AreNotedAt (rows_of (g.T.Tabled.keyed (source_with l.fn.records.contents l.columns))) (take l.place-index l.places) l.notes.items;
}
