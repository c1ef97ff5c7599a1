use Rattle.std.proofs.Common.{◌≡◌, sym, ap, subst, ◌∙◌, get_or}
use Rattle.std.proofs.lemmas.Option.{same_Some}
use Rattle.std.specs.FinMap.{entries}
use Rattle.plan_basics.specs.declared.keys.OpKey.{OpKey}
use Rattle.plan_model.specs.Contents.{Contents, Operation}
use Rattle.start_choice.specs.plan_status.proofs.RowKeys.{row_read}
use Rattle.derived_figures.specs.Reports.{IsReported}
use Rattle.derived_figures.proofs.loaded.LoadedPlan.reported_at.Goals as goal

pub returns : goal.returns
returns c o op at =
    let rows = c.operations.ensures.rows ∙ ap (λ (Q : Contents). entries Q.operations) c.contents.ensures.contents in
    let row : OpKey × Operation = get_or c.operations.result.now c.args.place c.index-operations-place.result in
    let read = row_read c.operations.result.now (entries c.args.self.now.operations) rows c.args.place c.index-operations-place.result c.requires in
    let same : c.index-operations-place.result ≡ (o, op) = c.index-operations-place.is ∙ same_Some row (o, op) (sym read ∙ at) in
    subst (λ (Q : Contents). IsReported Q o c.reported.result) c.outline.ensures
    (subst (λ (z : OpKey × Operation). IsReported c.outline.result z.0 c.reported.result) same c.reported.ensures)
