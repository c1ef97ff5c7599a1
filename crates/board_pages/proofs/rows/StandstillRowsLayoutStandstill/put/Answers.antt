use Rattle.std.proofs.Common.{◌++◌, ◌∷◌, [], rules, to_z-of_z, SFits, w64}
use Rattle.forecast_texts.specs.Columns.{standing_text}
use Rattle.html_pages.proofs.Bytes.{behind}
use Rattle.html_pages.specs.Pieces.{minute_text}
use Rattle.board_pages.specs.Rows.{cell_parts, one_last, operation_parts, status_word}
use Rattle.board_pages.proofs.rows.StandstillRowsLayoutStandstill.put.Goals as goal

pub returns : goal.returns
returns c =
    let page = c.args.page.now.items in
    let r = c.args.row.now in
    let fits : SFits w64 r.latest = search rules in
    let p0 = operation_parts r.key r.workstation in
    let p1 = cell_parts (status_word r.status) in
    let p2 = cell_parts (standing_text r.standing ++ 10 ∷ []) in
    let status = rw c.status_word.ensures at c.in_ok-put_cell.ensures in
    let why = rw (c.deref.ensures.value, c.in_ok-why.ensures) at c.in_ok-put_cell-2.ensures in
    let t1 = behind page p0 p1 c.in_ok-put_operation.ensures status in
    let t2 = behind page (p0 ++ p1) p2 t1 why in
    behind page (p0 ++ p1 ++ p2) (one_last (minute_text r.latest)) t2 (simp to_z-of_z at c.in_ok-put.ensures)
