use Rattle.std.proofs.Common.{◌≡◌, ◌∙◌, ap, rules, inl, inr, true, false}
use Rattle.std.proofs.lemmas.Result.{IfOk-weaker}
use Rattle.http_messages.specs.Replies.{text_reply}
use Rattle.plan_reports.specs.Reports.{ready_refusal_of, IsReadyReport}
use Rattle.desk_serving.specs.Shown.{refused_reply}
use Rattle.desk_serving.proofs.Owed.{shows_made}
use Rattle.desk_serving.proofs.showing.ready_shown.Goals as goal

pub returns-in-Some : goal.returns-in-Some
returns-in-Some g c =
    let d = c.args.desk.now in
    let w = c.in-Some.workstation in
    let shows = shows_made text_reply (ready_refusal_of d.is_usable d.plan w) (IsReadyReport d.plan w) c.ready_made.result c.text_shown.result
    c.ready_made.ensures.text c.ready_made.ensures.none_owed c.ready_made.ensures.refused c.text_shown.ensures.shown c.text_shown.ensures.memory in
    IfOk-weaker c.text_shown.result _ _ (λ output h. inl (c.in-Some.ensures.some.0 (search rules), h)) (rw c.in-Some.ensures.value at shows)

pub returns-in-None : goal.returns-in-None
returns-in-None g c =
    IfOk-weaker c.refused_shown.result _ _
    (λ output h. inr ((λ is. let wrong : false ≡ true = c.in-None.ensures.some.1 is in absurd cc), h ∙ ap refused_reply c.refusal_or.ensures))
    c.refused_shown.ensures
