use Rattle.std.proofs.Common.{◌++◌, map}
use Rattle.html_pages.proofs.Bytes.{behind}
use Rattle.html_pages.specs.Beginnings.{refresh}
use Rattle.html_pages.specs.Pieces.{filled, only, text_of}
use Rattle.html_pages.specs.declared.beginnings.TheConstants as markup
use Rattle.html_pages.proofs.beginnings.put_beginning.Goals as goal

pub returns : goal.returns
returns c =
    let page = c.args.page.now.items in
    let p0 = only markup.BEGINNING.now in
    let p1 = only (refresh c.args.is_still) in
    let p2 = filled c.args.title.now (map text_of c.args.values.now) in
    let again = rw c.refresh.ensures at c.in_ok-put-2.ensures in
    let t2 = behind page (p0 ++ p1) p2 (behind page p0 p1 c.in_ok-put.ensures again) c.in_ok-put-3.ensures in
    behind page (p0 ++ p1 ++ p2) (only markup.STYLE.now) t2 c.in_ok-put-4.ensures
