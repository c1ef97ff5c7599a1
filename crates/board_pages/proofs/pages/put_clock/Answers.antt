use Rattle.std.proofs.Common.{◌++◌, ◌∷◌, [], pos}
use Rattle.std.specs.Prelude.{codes}
use Rattle.html_pages.proofs.Bytes.{behind}
use Rattle.html_pages.specs.Beginnings.{beginning_parts}
use Rattle.html_pages.specs.Pieces.{date_text, filled, hour_text, only}
use Rattle.board_pages.specs.declared.markup.TheConstants as markup
use Rattle.board_pages.proofs.pages.put_clock.Goals as goal

pub returns : goal.returns
returns c =
    let page = c.args.page.now.items in
    let clock = pos c.args.clock in
    let p0 = beginning_parts c.args.is_still (filled (codes "<title>Board ~</title>\n<style>\n") (hour_text clock ∷ [])) in
    let p1 = only markup.STYLE_END.now in
    let p2 = filled (codes "</style>\n</head>\n<body>\n<header>\n<h1><small>~</small>~</h1>\n") (date_text clock ∷ hour_text clock ∷ []) in
    behind page (p0 ++ p1) p2 (behind page p0 p1 c.in_ok-put_beginning.ensures c.in_ok-put.ensures) c.in_ok-put-2.ensures
