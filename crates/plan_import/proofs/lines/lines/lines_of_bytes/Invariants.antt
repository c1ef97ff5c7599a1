use Rattle.std.proofs.Common.{◌≡◌, ◌≤◌, ◌+◌, ◌++◌, drop}
use Rattle.csv.specs.declared.parser.State.TheVariants as st
use Rattle.plan_import.specs.Places.{state_of}
use Rattle.plan_import.proofs.LineLaws.{lines_from}
use Rattle.plan_import.proofs.lines.lines.lines_of_bytes.Given as goal

abbrev pub invariant-loop-byte : goal.invariant-loop-byte
invariant-loop-byte l = (l.line ≤ 1 + l.byte-index)
    × (l.lines.items ++ lines_from (state_of l.place) l.line (drop l.byte-index l.bytes) ≡ lines_from st.StartRecord 1 l.bytes)
