use Rattle.std.proofs.Common.{◌++◌}
use Rattle.std.specs.Prelude.{codes}
use Rattle.html_pages.proofs.Bytes.{behind}
use Rattle.html_pages.specs.Pieces.{only}
use Rattle.board_pages.specs.Pages.{clock_parts, counts_parts, still_parts, stood_parts}
use Rattle.board_pages.proofs.pages.put_head.Goals as goal

pub returns : goal.returns
returns c =
    let page = c.args.page.now.items in
    let v = c.args.view in
    let p0 = clock_parts c.args.told.now.from v.is_still in
    let p1 = still_parts v.is_still v.until in
    let p2 = stood_parts c.args.watch.now in
    let p3 = only (codes "<ul>\n") in
    let p4 = counts_parts c.args.told.now c.args.complete c.args.by_hand in
    let p5 = only (codes "</ul>\n</header>\n<main>\n") in
    let t1 = behind page p0 p1 c.in_ok-put_clock.ensures c.in_ok-put_still.ensures in
    let t2 = behind page (p0 ++ p1) p2 t1 c.in_ok-put_stood.ensures in
    let t3 = behind page (p0 ++ p1 ++ p2) p3 t2 c.in_ok-put.ensures in
    let t4 = behind page (p0 ++ p1 ++ p2 ++ p3) p4 t3 c.in_ok-put_counts.ensures in
    behind page (p0 ++ p1 ++ p2 ++ p3 ++ p4) p5 t4 c.in_ok-put-2.ensures
