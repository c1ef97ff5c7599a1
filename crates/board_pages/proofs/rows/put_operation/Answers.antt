use Rattle.std.proofs.Common.{◌≡◌, ◌∙◌, ◌++◌, ◌∷◌, [], List, ℕ, pos, subst}
use Rattle.std.specs.Prelude.{OnOk, codes, decimal}
use Rattle.plan_basics.specs.Keys.{Name}
use Rattle.plan_basics.specs.declared.keys.OpKey.{OpKey}
use Rattle.html_pages.specs.Pieces.{Part, bytes, filled, minute_text, path_text}
use Rattle.board_pages.proofs.rows.put_operation.Goals as goal

-- the beginning of the row by the text of the key and its number
abbrev row_by : OpKey → Name → List ℕ → ℕ → List Part
row_by o w text n = filled (codes "<tr class=\"\"><th scope=\"row\"><a href=\"/page/why/~\">~ ~</a> <small>~</small></th><td>~</td>")
    (path_text text ∷ o.occurrence.app ∷ decimal n ∷ minute_text (pos o.occurrence.arrival) ∷ w ∷ [])

pub returns : goal.returns
returns c =
    let text = c.as_bytes.ensures.text ∙ c.to_text-text.ensures.text.1 in
    subst (λ (parts : List Part). OnOk c.put.result (c.put.new.page.items ≡ c.args.page.now.items ++ bytes parts)) (λ i. row_by c.args.key c.args.workstation (text i) (c.from.ensures i)) c.put.ensures
