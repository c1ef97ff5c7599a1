use Rattle.std.specs.Prelude.{codes, true}
use Rattle.html_pages.proofs.Bytes.{behind}
use Rattle.html_pages.specs.Beginnings.{beginning_parts}
use Rattle.html_pages.specs.Pieces.{only}
use Rattle.html_pages.specs.Refusals.{front_body}
use Rattle.html_pages.proofs.refusals.put_front.Goals as goal

pub returns : goal.returns
returns c = behind c.args.page.now.items (beginning_parts true (only (codes "<title>Plan</title>\n<style>\n"))) front_body c.in_ok-put_beginning.ensures c.in_ok-put.ensures
