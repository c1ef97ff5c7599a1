use Rattle.std.proofs.Common.{◌≡◌, length}
use Rattle.desk_tables.specs.Errors.{error_rows}
use Rattle.desk_tables.proofs.errors.ErrorRows.next.Given as goal

abbrev pub invariant-loop-view : goal.invariant-loop-view
invariant-loop-view g l = error_rows l.self-inside.ops ≡ error_rows l.initial.self-inside.ops

abbrev pub decreases-loop-view : goal.decreases-loop-view
decreases-loop-view g l = length l.self-inside.ops
