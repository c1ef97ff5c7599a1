use Rattle.std.proofs.Common.{◌≡◌, ◌∙◌, ap, inl, inr, true, false}
use Rattle.std.proofs.lemmas.Result.{IfOk-weaker}
use Rattle.plan_reports.specs.Reports.{desk_show_refusal_of}
use Rattle.plan_reports.specs.plan_shows.specs.Shows.{IsShow}
use Rattle.plan_reports.specs.plan_shows.specs.declared.shows.Show.TheVariants as show
use Rattle.desk_serving.specs.Shown.{refused_as, shown_as}
use Rattle.desk_serving.proofs.Owed.{shows_by}
use Rattle.desk_serving.proofs.keyed.operations_shown.Goals as goal

pub returns : goal.returns
returns g c =
    let d = c.args.desk.now in
    let s = show.Operations c.in-Some.occurrence in
    IfOk-weaker c.made_as.result _ _ (λ output h. inl (c.in-Some.occurrence, c.in-Some.ensures.value, h))
    (shows_by (refused_as c.args.as_page) (shown_as c.args.as_page c.args.key.now true) (desk_show_refusal_of d.is_usable s d.plan) (IsShow s d.plan d.receipts) c.show_made-made.result c.made_as.result
    c.show_made-made.ensures.text c.show_made-made.ensures.none_owed c.show_made-made.ensures.refused c.made_as.ensures.shown c.made_as.ensures.memory)

pub returns-in_default : goal.returns-in_default
returns-in_default g c =
    IfOk-weaker c.refusal_as.result _ _
    (λ output h. inr ((λ o names. let wrong : false ≡ true = c.in_default.ensures.some.1 (o, names.0, names.1) in absurd cc), h ∙ ap (refused_as c.args.as_page) c.refusal_or.ensures))
    c.refusal_as.ensures
