use Rattle.std.proofs.Common.{◌≡◌, ◌++◌, map, drop}
use Rattle.std.specs.Slice.Iter.{iter_rest}
use Rattle.html_pages.specs.Pieces.{bytes, filled, text_of}
use Rattle.html_pages.proofs.pieces.put.Given as goal

abbrev pub invariant-loop-byte : goal.invariant-loop-byte
invariant-loop-byte l = l.page.items ++ bytes (filled (drop l.byte-index l.template) (map text_of (iter_rest l.left))) ≡ l.fn.page.items ++ bytes (filled l.template (map text_of l.values))
