use Rattle.std.proofs.Common.{◌≡◌, ◌∙◌, ap, rules, inl, inr, true, false, Some}
use Rattle.std.proofs.lemmas.Result.{IfOk-weaker}
use Rattle.plan_reports.specs.plan_shows.specs.Values.{started_refusal_of, IsStartedText}
use Rattle.desk_serving.specs.Shown.{owed_by, refused_reply, value_reply}
use Rattle.desk_serving.proofs.Owed.{shows_made}
use Rattle.desk_serving.proofs.showing.started_shown.Goals as goal

pub returns-in-Some : goal.returns-in-Some
returns-in-Some g c =
    let d = c.args.desk.now in
    let w = c.in-Some.workstation in
    let shows = shows_made value_reply (owed_by d.is_usable (started_refusal_of (Some w) d.plan)) (IsStartedText (Some w) d.plan) c.started_made.result c.value_shown.result
    c.started_made.ensures.text c.started_made.ensures.none_owed c.started_made.ensures.refused c.value_shown.ensures.shown c.value_shown.ensures.memory in
    IfOk-weaker c.value_shown.result _ _ (λ output h. inl (c.in-Some.ensures.some.0 (search rules), h)) (rw c.in-Some.ensures.value at shows)

pub returns-in-None : goal.returns-in-None
returns-in-None g c =
    IfOk-weaker c.refused_shown.result _ _
    (λ output h. inr ((λ is. let wrong : false ≡ true = c.in-None.ensures.some.1 is in absurd cc), h ∙ ap refused_reply c.refusal_or.ensures))
    c.refused_shown.ensures
