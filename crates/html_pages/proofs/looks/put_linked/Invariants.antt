use Rattle.std.proofs.Common.{◌≡◌, ◌++◌, drop, []}
use Rattle.html_pages.specs.Looks.{linked}
use Rattle.html_pages.specs.Pieces.{bytes}
use Rattle.html_pages.proofs.looks.put_linked.Given as goal

abbrev pub invariant-loop-byte : goal.invariant-loop-byte
invariant-loop-byte l = l.page.items ++ bytes (linked l.key l.has_rows l.begins l.word.items (drop l.byte-index l.text)) ≡ l.fn.page.items ++ bytes (linked l.key l.has_rows l.has_rows [] l.text)
