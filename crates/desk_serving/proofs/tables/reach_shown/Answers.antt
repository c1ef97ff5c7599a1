use Rattle.std.proofs.Common.{◌∙◌, ap, inl, inr}
use Rattle.std.proofs.lemmas.Result.{IfOk-weaker}
use Rattle.desk_serving.specs.Shown.{refused_reply}
use Rattle.desk_serving.proofs.tables.reach_shown.Goals as goal

pub returns-in-Some : goal.returns-in-Some
returns-in-Some g c = IfOk-weaker c.show_shown.result _ _ (λ output h. inl (c.in-Some.key, c.in-Some.ensures, h)) c.show_shown.ensures

pub returns-in-None : goal.returns-in-None
returns-in-None g c = IfOk-weaker c.refused_shown.result _ _ (λ output h. inr (c.in-None.ensures, h ∙ ap refused_reply c.refusal_or.ensures)) c.refused_shown.ensures
