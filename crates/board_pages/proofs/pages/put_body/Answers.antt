use Rattle.std.proofs.Common.{◌++◌}
use Rattle.html_pages.proofs.Bytes.{behind}
use Rattle.board_pages.specs.Pages.{ahead_parts, foot_parts, occurrences_part, trouble_parts}
use Rattle.board_pages.proofs.pages.put_body.Goals as goal

pub returns : goal.returns
returns c =
    let page = c.args.page.now.items in
    let x = c.args.told.now in
    let p0 = trouble_parts x c.args.watch.now c.args.needing.now in
    let p1 = ahead_parts x c.args.by_hand.now c.args.occurrences.now in
    let p2 = occurrences_part x c.args.occurrences.now in
    let t1 = behind page p0 p1 c.in_ok-put_trouble.ensures c.in_ok-put_ahead.ensures in
    behind page (p0 ++ p1 ++ p2) (foot_parts x) (behind page (p0 ++ p1) p2 t1 c.in_ok-put_occurrences.ensures) c.in_ok-put_foot.ensures
