use Rattle.std.proofs.Common.{◌++◌}
use Rattle.html_pages.proofs.Bytes.{behind}
use Rattle.board_pages.specs.Pages.{by_hand_part, late_part, running_part}
use Rattle.board_pages.proofs.pages.put_ahead.Goals as goal

pub returns : goal.returns
returns c =
    let page = c.args.page.now.items in
    let p0 = late_part c.args.occurrences.now in
    let p1 = by_hand_part c.args.by_hand.now in
    let p2 = running_part c.args.told.now in
    let late = rw (c.deref-2.ensures.value, c.in_ok-late.ensures) at c.in_ok-put_table.ensures in
    let running = rw (c.deref-3.ensures.value, c.in_ok-running.ensures, c.deref.ensures.value) at c.in_ok-put_table-3.ensures in
    behind page (p0 ++ p1) p2 (behind page p0 p1 late c.in_ok-put_table-2.ensures) running
