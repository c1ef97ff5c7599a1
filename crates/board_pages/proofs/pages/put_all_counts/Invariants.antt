use Rattle.std.proofs.Common.{◌≡◌, ◌++◌, drop, Bor, Bool, List, ℕ}
use Rattle.std.specs.Prelude.{flat_map}
use Rattle.html_pages.specs.Pieces.{Part, bytes}
use Rattle.board_pages.specs.Pages.{count_parts}
use Rattle.board_pages.proofs.pages.put_all_counts.Given as goal

abbrev pub parts_of : Bool × ℕ × Bor (List ℕ) → List Part
parts_of r = count_parts r.0 r.1 r.2.now

abbrev pub invariant-loop-count : goal.invariant-loop-count
invariant-loop-count l = l.page.items ++ bytes (flat_map parts_of (drop l.count-index l.counts)) ≡ l.fn.page.items ++ bytes (flat_map parts_of l.counts)
