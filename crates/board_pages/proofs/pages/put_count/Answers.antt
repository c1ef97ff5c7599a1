use Rattle.std.proofs.Common.{◌++◌, ◌∷◌, []}
use Rattle.std.specs.Prelude.{codes, decimal}
use Rattle.html_pages.proofs.Bytes.{behind}
use Rattle.html_pages.specs.Pieces.{filled, only}
use Rattle.board_pages.specs.Pages.{count_template}
use Rattle.board_pages.proofs.pages.put_count.Goals as goal

pub returns : goal.returns
returns c =
    let page = c.args.page.now.items in
    let p0 = filled (count_template c.args.is_alarm c.args.count) (decimal c.args.count ∷ []) in
    let p1 = only c.args.words.now in
    let p2 = only (codes "</li>\n") in
    let t0 = rw c.count_template.ensures at c.in_ok-put.ensures in
    behind page (p0 ++ p1) p2 (behind page p0 p1 t0 c.in_ok-put-2.ensures) c.in_ok-put-3.ensures
