use Rattle.std.proofs.Common.{◌++◌}
use Rattle.std.specs.Prelude.{codes}
use Rattle.html_pages.proofs.Bytes.{behind}
use Rattle.html_pages.specs.Pieces.{only}
use Rattle.board_pages.specs.Tables.{list_parts}
use Rattle.board_pages.proofs.tables.put_table.Goals as goal

pub returns : goal.returns
returns g c =
    let page = c.args.page.now.items in
    let head = only c.args.head.now in
    let rows = list_parts (g.L.Layout.parts c.args.told.now) c.args.most c.args.rows.now in
    behind page (head ++ rows) (only (codes "</tbody></table></section>\n")) (behind page head rows c.in_ok-put.ensures c.in_ok-put_list.ensures) c.in_ok-put-2.ensures
