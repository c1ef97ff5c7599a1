use Rattle.std.proofs.Common.{◌≡◌, ◌∙◌, ap, false, inl, inr}
use Rattle.std.proofs.lemmas.Result.{IfOk-weaker}
use Rattle.plan_reports.specs.desk_tables.specs.plan_model.specs.Plan.{Plan}
use Rattle.plan_reports.specs.Reports.{why_refusal_of, IsWhyReport}
use Rattle.desk_serving.specs.Shown.{refused_as, shown_as}
use Rattle.desk_serving.proofs.Owed.{shows_by}
use Rattle.desk_serving.proofs.keyed.why_shown.Goals as goal

pub returns : goal.returns
returns g c =
    let d = c.args.desk.now in
    let o = c.in-Some.operation in
    let moment : c.clock.result ≡ d.plan.clock = c.clock.ensures.value ∙ ap (λ (P : Plan). P.clock) c.plan.ensures.plan in
    IfOk-weaker c.made_as.result _ _ (λ output h. inl (o, c.in-Some.ensures, h))
    (shows_by (refused_as c.args.as_page) (shown_as c.args.as_page c.args.key.now false) (why_refusal_of d.is_usable d.plan o) (IsWhyReport d.plan o d.plan.clock) c.why_made-made.result c.made_as.result
    (rw moment at c.why_made-made.ensures.text) c.why_made-made.ensures.none_owed c.why_made-made.ensures.refused c.made_as.ensures.shown c.made_as.ensures.memory)

pub returns-in_default : goal.returns-in_default
returns-in_default g c =
    IfOk-weaker c.refusal_as.result _ _
    (λ output h. inr (c.in_default.ensures, h ∙ ap (refused_as c.args.as_page) c.refusal_or.ensures))
    c.refusal_as.ensures
