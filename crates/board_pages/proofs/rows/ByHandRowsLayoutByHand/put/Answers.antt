use Rattle.std.proofs.Common.{◌++◌, rules, to_z-of_z, SFits, w64}
use Rattle.forecast_texts.specs.Columns.{deed_text}
use Rattle.html_pages.proofs.Bytes.{behind}
use Rattle.html_pages.specs.Pieces.{minute_if_any, minute_text}
use Rattle.board_pages.specs.Rows.{cell_parts, late_parts, operation_parts, two_before}
use Rattle.board_pages.proofs.rows.ByHandRowsLayoutByHand.put.Goals as goal

pub returns : goal.returns
returns c =
    let page = c.args.page.now.items in
    let r = c.args.row.now in
    let fits : SFits w64 r.latest = search rules in
    let p0 = operation_parts r.key r.workstation in
    let p1 = cell_parts (deed_text r.deed) in
    let p2 = two_before (minute_text (minute_if_any r.at)) (minute_text r.latest) in
    let t1 = behind page p0 p1 c.in_ok-put_operation.ensures (rw c.deed_text.ensures at c.in_ok-put_cell.ensures) in
    let t2 = behind page (p0 ++ p1) p2 t1 (simp to_z-of_z at c.in_ok-put.ensures) in
    behind page (p0 ++ p1 ++ p2) (late_parts r.late) t2 c.in_ok-put_late.ensures
