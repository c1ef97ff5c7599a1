use Rattle.std.proofs.Common.{◌≡◌, ◌++◌, map, drop}
use Rattle.std.specs.Prelude.{flat_map}
use Rattle.report_lines.specs.Lines.{line}
use Rattle.report_lines.proofs.texts.report.Given as goal

abbrev pub invariant-loop-row : goal.invariant-loop-row
invariant-loop-row g l = l.text.items ++ flat_map line (map g.L.Layout.columns (drop l.row-index l.rows)) ≡ l.initial.text.items ++ flat_map line (map g.L.Layout.columns l.rows)
