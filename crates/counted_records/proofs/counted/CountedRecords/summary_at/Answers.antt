use Rattle.std.proofs.Common.{◌≡◌, sym, subst, ◌∙◌, Some}
use Rattle.std.specs.FinMap.{get}
use Rattle.std.proofs.lemmas.Option.{same_Some}
use Rattle.plan_basics.specs.declared.keys.OpKey.{OpKey}
use Rattle.plan_status.proofs.LoadedRows.{row_found}
use Rattle.plan_status.specs.Summaries.{IsSummaryOf}
use Rattle.plan_status.specs.plan_model.specs.Contents.{Contents, Operation}
use Rattle.counted_records.proofs.counted.CountedRecords.summary_at.Goals as goal

pub summary_of-requires : goal.summary_of-requires
summary_of-requires c =
    let o = c.see.result.key.now in
    let op = c.see.result.operation.now in
    (o, subst (λ (Q : Contents). get Q.operations o ≡ Some op) (sym c.see.ensures.uncounted) (row_found c.args.self.now.contents c.args.place o op c.see.ensures.row))

pub returns-clause-summary : goal.returns-clause-summary
returns-clause-summary c o op at =
    let its = c.see.result.operation.now in
    let same : ◌≡◌ {A = OpKey × Operation} (c.see.result.key.now, its) (o, op) = same_Some (c.see.result.key.now, its) (o, op) (sym c.see.ensures.row ∙ at) in
    subst (λ (row : OpKey × Operation). IsSummaryOf c.args.self.now.contents row.1 c.summary_of.result) same
    (subst (λ (Q : Contents). IsSummaryOf Q its c.summary_of.result) c.see.ensures.uncounted c.summary_of.ensures)
