use Rattle.std.proofs.Common.{◌++◌}
use Rattle.std.specs.Prelude.{codes}
use Rattle.html_pages.proofs.Bytes.{behind}
use Rattle.html_pages.specs.Pieces.{only}
use Rattle.board_pages.specs.Pages.{ticks_parts}
use Rattle.board_pages.specs.Rows.{occurrence_row}
use Rattle.board_pages.specs.Tables.{table_parts}
use Rattle.board_pages.proofs.pages.put_occurrences.Goals as goal

pub returns : goal.returns
returns c =
    let page = c.args.page.now.items in
    let p0 = only (codes "<section class=\"wide\"><h2>Occurrences <small>least time to spare first; an upright mark is a deadline</small></h2>\n<table><thead><tr><th scope=\"col\">Occurrence</th><th scope=\"col\" class=\"t\">") in
    let p1 = ticks_parts c.args.told.now in
    let p2 = table_parts (codes "</th><th scope=\"col\">Deadline</th><th scope=\"col\">Ends</th><th scope=\"col\">Spare</th></tr></thead><tbody>\n") (occurrence_row c.args.told.now) 200 c.args.occurrences.now in
    behind page (p0 ++ p1) p2 (behind page p0 p1 c.in_ok-put.ensures c.in_ok-put_ticks.ensures) c.in_ok-put_table.ensures
