use Rattle.html_pages.proofs.Bytes.{behind}
use Rattle.html_pages.specs.Pieces.{minute_if_any, minute_text}
use Rattle.board_pages.specs.Rows.{operation_parts, two_last}
use Rattle.board_pages.proofs.rows.RunningRowsLayoutOperationOutlook.put.Goals as goal

pub returns : goal.returns
returns c =
    let r = c.args.row.now in
    let p1 = two_last (minute_text (minute_if_any r.since)) (minute_text (minute_if_any r.end)) in
    behind c.args.page.now.items (operation_parts r.key r.workstation) p1 c.in_ok-put_operation.ensures c.in_ok-put.ensures
