use Rattle.std.proofs.Common.{◌≡◌, sym, subst, ◌∙◌}
use Rattle.std.proofs.lemmas.Option.{same_Some}
use Rattle.std.specs.FinMap.{entries}
use Rattle.plan_basics.specs.declared.keys.OpKey.{OpKey}
use Rattle.plan_model.specs.Contents.{Operation}
use Rattle.plan_status.proofs.LoadedRows.{row_found}
use Rattle.plan_status.proofs.RowKeys.{row_lent}
use Rattle.plan_status.proofs.SoFar.{one_more}
use Rattle.plan_status.specs.Summaries.{HasSummary, IsSummaryOf}
use Rattle.plan_status.proofs.summaries.summaries_of.Goals as goal

pub summary_of-requires : goal.summary_of-requires
summary_of-requires c =
    let P = c.args.contents.now in
    let i = c.loop-i.i in
    let row = c.index-rows-i.result in
    (row.0, row_found P i row.0 row.1 (row_lent c.operations-rows.result.now (entries P.operations) c.operations-rows.ensures.rows i row c.loop-i-test.true c.index-rows-i.is))

pub loop-i-preserved : goal.loop-i-preserved
loop-i-preserved c =
    let P = c.args.contents.now in
    let rows = entries P.operations in
    let i = c.loop-i.i in
    let row = c.index-rows-i.result in
    let at = row_lent c.operations-rows.result.now rows c.operations-rows.ensures.rows i row c.loop-i-test.true c.index-rows-i.is in
    rw c.in_ok-push.ensures.items
    (one_more rows (HasSummary P) i c.loop-i.summaries.items c.loop-i.invariant c.summary_of.result (λ k v here.
    let same : row ≡ (k, v) = same_Some row (k, v) (sym at ∙ here) in
    (v, row_found P i k v here, subst (λ (z : OpKey × Operation). IsSummaryOf P z.1 c.summary_of.result) same c.summary_of.ensures)))
