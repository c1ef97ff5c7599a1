use Rattle.std.proofs.Common.{◌≡◌, ◌++◌, drop}
use Rattle.std.specs.Prelude.{filter}
use Rattle.board_pages.specs.Choices.{needs_somebody}
use Rattle.board_pages.proofs.choices.needing_somebody.Given as goal

abbrev pub invariant-loop-row : goal.invariant-loop-row
invariant-loop-row l = l.chosen.items ++ filter needs_somebody (drop l.row-index l.rows) ≡ filter needs_somebody l.rows
