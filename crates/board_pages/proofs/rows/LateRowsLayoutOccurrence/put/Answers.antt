use Rattle.std.proofs.Common.{◌++◌, []}
use Rattle.html_pages.proofs.Bytes.{behind}
use Rattle.board_pages.specs.Rows.{end_cells, key_parts, late_parts}
use Rattle.board_pages.proofs.rows.LateRowsLayoutOccurrence.put.Goals as goal

pub returns : goal.returns
returns c =
    let page = c.args.page.now.items in
    let r = c.args.row.now in
    let p0 = key_parts [] r.key in
    let p1 = end_cells r in
    behind page (p0 ++ p1) (late_parts r.late) (behind page p0 p1 c.in_ok-put_key.ensures c.in_ok-put.ensures) c.in_ok-put_late.ensures
