use Rattle.std.proofs.Common.{◌≡◌, ◌++◌, ◌-◌}
use Rattle.std.specs.List.{range_with_len}
use Rattle.std.specs.Prelude.{flat_map}
use Rattle.html_pages.specs.Pieces.{bytes}
use Rattle.board_pages.specs.Rows.{tick_parts}
use Rattle.board_pages.proofs.pages.put_ticks.Given as goal

abbrev pub invariant-loop-count : goal.invariant-loop-count
invariant-loop-count l = l.page.items ++ bytes (flat_map (tick_parts l.told) (range_with_len l.count (8 - l.count))) ≡ l.fn.page.items ++ bytes (flat_map (tick_parts l.told) (range_with_len 0 8))
