use Rattle.std.proofs.Common.{rules, to_z-of_z, SFits, w64}
use Rattle.html_pages.proofs.Bytes.{behind}
use Rattle.html_pages.specs.Pieces.{minute_if_any, minute_text, minutes_text}
use Rattle.board_pages.specs.Rows.{operation_parts, three_last}
use Rattle.board_pages.proofs.rows.NamedRowsLayoutNamedRow.put.Goals as goal

pub returns : goal.returns
returns c =
    let r = c.args.row.now in
    let fits : SFits w64 r.0.latest = search rules in
    let p1 = three_last (minute_text (minute_if_any r.0.since)) (minutes_text r.1) (minute_text r.0.latest) in
    behind c.args.page.now.items (operation_parts r.0.key r.0.workstation) p1 c.in_ok-put_operation.ensures (simp to_z-of_z at c.in_ok-put.ensures)
