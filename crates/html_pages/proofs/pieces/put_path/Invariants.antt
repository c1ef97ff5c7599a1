use Rattle.std.proofs.Common.{◌≡◌, ◌++◌, drop}
use Rattle.html_pages.specs.Pieces.{path_text, plain}
use Rattle.html_pages.proofs.pieces.put_path.Given as goal

abbrev pub invariant-loop-byte : goal.invariant-loop-byte
invariant-loop-byte l = l.page.items ++ plain (path_text (drop l.byte-index l.text)) ≡ l.fn.page.items ++ plain (path_text l.text)
