use Rattle.std.proofs.Common.{◌≡◌, arith, ap, subst, ◌∙◌, length, Some, slice_get}
use Rattle.std.specs.FinMap.{entries, len-entries}
use Rattle.plan_status.proofs.LoadedRows.{row_found}
use Rattle.plan_status.proofs.SoFar.{all_rows, one_more}
use Rattle.plan_status.specs.Summaries.{HasSummary, IsSummaryOf}
use Rattle.plan_status.specs.plan_model.specs.Contents.{Contents}
use Rattle.counted_records.proofs.counted.CountedRecords.summaries_of.Goals as goal
use Rattle.counted_records.proofs.counted.CountedRecords.summaries_of.Goals.{After-operation_count-count}

-- as many as there are operations
counted : (c : After-operation_count-count) → c.operation_count-count.result ≡ length (entries c.args.self.now.contents.operations)
counted c = c.operation_count-count.ensures.count ∙ ap (λ (P : Contents). length (entries P.operations)) c.uncounted.ensures.contents

pub summary_at-summary-requires : goal.summary_at-summary-requires
summary_at-summary-requires c =
    let all = counted ((goal.at.summary_at-summary-requires c).After-operation_count-count) in
    omega (arith, c.loop-place-test.true, all, ap (λ (P : Contents). length (entries P.operations)) c.loop-place.invariant.contents)

pub loop-place-preserved : goal.loop-place-preserved
loop-place-preserved c =
    let P = c.args.self.now.contents in
    let rows = entries P.operations in
    let i = c.loop-place.place in
    let invariant = c.loop-place.invariant in
    let before = invariant.most in
    record {
      contents = c.summary_at-summary.ensures.contents ∙ invariant.contents;
      fewest = omega (arith, invariant.fewest, c.summary_at-summary.ensures.fewest);
      most = omega (arith, invariant.most, c.summary_at-summary.ensures.most);
      summaries =
          rw c.in_ok-push.ensures.items
          (one_more rows (HasSummary P) i c.loop-place.summaries.items invariant.summaries c.summary_at-summary.result (λ k v here.
          (v, row_found P i k v here, subst (λ (Q : Contents). slice_get (entries Q.operations) i ≡ Some (k, v) → IsSummaryOf Q v c.summary_at-summary.result) invariant.contents (c.summary_at-summary.ensures.summary k v) here)));
    }

pub returns-clause-summaries : goal.returns-clause-summaries
returns-clause-summaries c =
    let P = c.args.self.now.contents in
    let all = counted ((goal.at.returns-clause-summaries c).After-operation_count-count) in
    all_rows (entries P.operations) (HasSummary P) c.loop-place.place c.loop-place.summaries.items c.loop-place.invariant.summaries (omega (arith, c.loop-place-test.false, c.loop-place.auto.place-end, all))

pub returns-clause-most : goal.returns-clause-most
returns-clause-most c =
    let all = counted ((goal.at.returns-clause-most c).After-operation_count-count) in
    omega (arith, c.loop-place.invariant.most, c.loop-place.auto.place-end, all, len-entries c.args.self.now.contents.operations)

pub returns-in_err-push-clause-most : goal.returns-in_err-push-clause-most
returns-in_err-push-clause-most c =
    let all = counted ((goal.at.returns-in_err-push-clause-most c).After-operation_count-count) in
    omega (arith, c.loop-place.invariant.most, c.summary_at-summary.ensures.most, c.loop-place-test.true, all, len-entries c.args.self.now.contents.operations)
