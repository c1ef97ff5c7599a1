use Rattle.std.specs.Prelude.{map}
use Rattle.std.specs.Map.{keys_of}
use Rattle.plan_rows.proofs.AddedRows.{AreAddedTo, itself}
use Rattle.plan_rows.proofs.kept_tables.push_keys.Given as goal
use Rattle.plan_rows.specs.Rows.{if_any}
use Rattle.plan_rows.specs.Sources.{source_if_any}

-- the keys at the first places are added
abbrev pub invariant-loop-place : goal.invariant-loop-place
invariant-loop-place g l = AreAddedTo itself (map g.T.Tabled.name (keys_of (if_any g.T.Tabled.keyed (source_if_any l.source)))) l.places l.place-index l.fn.keys.items l.keys.items
