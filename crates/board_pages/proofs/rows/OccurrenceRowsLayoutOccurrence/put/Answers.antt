use Rattle.std.proofs.Common.{◌++◌}
use Rattle.html_pages.proofs.Bytes.{behind}
use Rattle.board_pages.specs.Bars.{bar_of}
use Rattle.board_pages.specs.Rows.{bar_parts, end_cells, key_parts, row_class, spare_parts}
use Rattle.board_pages.proofs.rows.OccurrenceRowsLayoutOccurrence.put.Goals as goal

pub returns : goal.returns
returns c =
    let page = c.args.page.now.items in
    let x = c.args.told.now in
    let r = c.args.row.now in
    let p0 = key_parts (row_class r.end r.late) r.key in
    let p1 = bar_parts (bar_of x r) in
    let p2 = end_cells r in
    let t0 = rw c.row_class.ensures at c.in_ok-put_key.ensures in
    let t1 = behind page p0 p1 t0 (rw c.bar_of.ensures at c.in_ok-put_bar.ensures) in
    let t2 = behind page (p0 ++ p1) p2 t1 c.in_ok-put.ensures in
    behind page (p0 ++ p1 ++ p2) (spare_parts x.is_cut r r.end r.late) t2 c.in_ok-put_spare.ensures
