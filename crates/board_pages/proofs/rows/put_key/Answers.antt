use Rattle.std.proofs.Common.{◌≡◌, ◌∙◌, ◌++◌, ◌∷◌, [], List, ℕ, pos, subst}
use Rattle.std.specs.Prelude.{codes}
use Rattle.plan_basics.specs.KeyTexts.{occurrence_text}
use Rattle.html_pages.proofs.Bytes.{behind}
use Rattle.html_pages.specs.Pieces.{Part, bytes, filled, minute_text, path_text}
use Rattle.board_pages.proofs.rows.put_key.Goals as goal

pub returns : goal.returns
returns c =
    let page = c.args.page.now.items in
    let k = c.args.key in
    let text = c.as_bytes.ensures.text ∙ c.to_text-text.ensures.text.1 in
    let p0 = filled (codes "<tr class=\"~\"><th scope=\"row\">") (c.args.class.now ∷ []) in
    let path_of : List ℕ → List Part = λ t. filled (codes "<a href=\"/page/show/operations/~\">~</a> <small>~</small></th>") (path_text t ∷ k.app ∷ minute_text (pos k.arrival) ∷ []) in
    let shown = subst (λ t. c.put-2.new.page.items ≡ c.put.new.page.items ++ bytes (path_of t)) text c.in_ok-put-2.ensures in
    behind page p0 (path_of (occurrence_text k)) c.in_ok-put.ensures shown
