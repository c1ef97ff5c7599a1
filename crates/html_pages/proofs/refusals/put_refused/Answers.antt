use Rattle.std.proofs.Common.{◌∷◌, []}
use Rattle.std.specs.Prelude.{codes}
use Rattle.html_pages.proofs.Bytes.{behind}
use Rattle.html_pages.specs.Beginnings.{beginning_parts}
use Rattle.html_pages.specs.Pieces.{filled}
use Rattle.html_pages.specs.Refusals.{refused_body}
use Rattle.html_pages.proofs.refusals.put_refused.Goals as goal

pub returns : goal.returns
returns c =
    let name = c.args.name.now in
    behind c.args.page.now.items (beginning_parts c.args.is_still (filled (codes "<title>No board: ~</title>\n<style>\n") (name ∷ []))) (refused_body name) c.in_ok-put_beginning.ensures c.in_ok-put.ensures
