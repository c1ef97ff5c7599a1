use Rattle.std.specs.Prelude.{codes, decimal}
use Rattle.html_pages.proofs.Bytes.{plain_behind}
use Rattle.html_pages.proofs.pieces.put_minutes.Goals as goal

pub returns : goal.returns
returns c = rw c.in-Some.is (plain_behind c.args.page.now.items (decimal c.in-Some.minutes) (codes " min") c.in_ok-put_number.ensures c.in_ok-put_text.ensures)
