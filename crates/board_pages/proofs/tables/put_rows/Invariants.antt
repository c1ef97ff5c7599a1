use Rattle.std.proofs.Common.{◌≡◌, ◌++◌, drop}
use Rattle.std.specs.Prelude.{flat_map}
use Rattle.html_pages.specs.Pieces.{bytes}
use Rattle.board_pages.proofs.tables.put_rows.Given as goal

abbrev pub invariant-loop-row : goal.invariant-loop-row
invariant-loop-row g l = l.page.items ++ bytes (flat_map (g.L.Layout.parts l.told) (drop l.row-index l.rows)) ≡ l.fn.page.items ++ bytes (flat_map (g.L.Layout.parts l.told) l.rows)
