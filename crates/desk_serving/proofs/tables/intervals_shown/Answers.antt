use Rattle.std.proofs.Common.{◌≡◌, ◌∙◌, ap, rules, inl, inr, true, false}
use Rattle.std.proofs.lemmas.Result.{IfOk-weaker}
use Rattle.desk_serving.specs.Shown.{refused_reply}
use Rattle.desk_serving.proofs.tables.intervals_shown.Goals as goal

pub returns-in-Some : goal.returns-in-Some
returns-in-Some g c = IfOk-weaker c.show_shown.result _ _ (λ output h. inl (c.in-Some.ensures.some.0 (search rules), h)) (rw c.in-Some.ensures.value at c.show_shown.ensures)

pub returns-in-None : goal.returns-in-None
returns-in-None g c =
    IfOk-weaker c.refused_shown.result _ _
    (λ output h. inr ((λ is. let wrong : false ≡ true = c.in-None.ensures.some.1 is in absurd cc), h ∙ ap refused_reply c.refusal_or.ensures))
    c.refused_shown.ensures
