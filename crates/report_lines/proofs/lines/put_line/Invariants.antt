use Rattle.std.proofs.Common.{◌≡◌, ◌++◌, map, drop}
use Rattle.report_lines.specs.Lines.{line, line_rest, shown}
use Rattle.report_lines.proofs.lines.put_line.Given as goal

abbrev pub invariant-loop-field : goal.invariant-loop-field
invariant-loop-field l = l.text.items ++ line_rest (map shown (drop l.field-index l.others)) ≡ l.fn.text.items ++ line (map shown l.fields)
