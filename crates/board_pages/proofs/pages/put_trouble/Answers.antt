use Rattle.std.proofs.Common.{◌++◌}
use Rattle.html_pages.proofs.Bytes.{behind}
use Rattle.board_pages.specs.Pages.{named_part, needing_part, over_part}
use Rattle.board_pages.proofs.pages.put_trouble.Goals as goal

pub returns : goal.returns
returns c =
    let page = c.args.page.now.items in
    let x = c.args.told.now in
    let p0 = needing_part x c.args.needing.now in
    let p1 = named_part x c.args.watch.now in
    let p2 = over_part x in
    let t0 = rw c.needing_head-head.ensures at c.in_ok-put_table.ensures in
    let rows = rw (c.deref-2.ensures.value, c.in_ok-named.ensures, c.deref.ensures.value) at c.in_ok-put_table-2.ensures in
    let over = rw c.deref-3.ensures.value at c.in_ok-put_table-3.ensures in
    behind page (p0 ++ p1) p2 (behind page p0 p1 t0 rows) over
