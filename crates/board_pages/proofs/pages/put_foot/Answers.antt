use Rattle.std.proofs.Common.{pos, ◌++◌, ◌∷◌, []}
use Rattle.std.specs.Prelude.{codes}
use Rattle.html_pages.proofs.Bytes.{behind}
use Rattle.html_pages.specs.Pieces.{date_text, filled, hour_text, only}
use Rattle.board_pages.specs.Pages.{unknown_count}
use Rattle.board_pages.proofs.pages.put_foot.Goals as goal

pub returns : goal.returns
returns c =
    let page = c.args.page.now.items in
    let to = pos c.args.told.now.to in
    let p0 = filled (codes "</main>\n<footer>Forecast to ~ ~") (date_text to ∷ hour_text to ∷ []) in
    let p1 = unknown_count c.args.told.now in
    let p2 = only (codes ".</footer>\n</body>\n</html>\n") in
    let unknown = rw (c.going_since_unknown.ensures, c.deref.ensures.value) at c.in_ok-put_unknown.ensures in
    behind page (p0 ++ p1) p2 (behind page p0 p1 c.in_ok-put.ensures unknown) c.in_ok-put-2.ensures
