use Rattle.std.proofs.Common.{◌++◌, ◌∷◌, []}
use Rattle.std.specs.Prelude.{codes, true}
use Rattle.html_pages.proofs.Bytes.{behind}
use Rattle.html_pages.specs.Beginnings.{beginning_parts}
use Rattle.html_pages.specs.Looks.{linked}
use Rattle.html_pages.specs.Pieces.{filled, only}
use Rattle.html_pages.proofs.looks.look_page.Goals as goal

pub returns : goal.returns
returns c =
    let key = c.args.key.now in
    let rows = c.args.has_rows in
    let p0 = beginning_parts true (filled (codes "<title>~</title>\n<style>\n") (key ∷ [])) in
    let p1 = only (codes "pre{font-size:1rem}\n</style>\n</head>\n<body>\n<main>\n<section class=\"wide\"><p><a href=\"/board\">Board</a></p>\n<pre>") in
    let p2 = linked key rows rows [] c.args.text.now in
    let p3 = only (codes "</pre></section>\n</main>\n</body>\n</html>\n") in
    let t0 = rw c.new-page.ensures.items at c.in_ok-put_beginning.ensures in
    let t1 = behind [] p0 p1 t0 c.in_ok-put.ensures in
    let t2 = behind [] (p0 ++ p1) p2 t1 c.in_ok-put_linked.ensures in
    behind [] (p0 ++ p1 ++ p2) p3 t2 c.in_ok-put-2.ensures
