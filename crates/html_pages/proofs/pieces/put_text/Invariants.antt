use Rattle.std.proofs.Common.{◌≡◌, ◌++◌, drop}
use Rattle.html_pages.specs.Pieces.{plain}
use Rattle.html_pages.proofs.pieces.put_text.Given as goal

abbrev pub invariant-loop-byte : goal.invariant-loop-byte
invariant-loop-byte l = l.page.items ++ plain (drop l.byte-index l.text) ≡ l.fn.page.items ++ plain l.text
