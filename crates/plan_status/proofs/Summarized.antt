-- What a summary says of its operation.
use Rattle.std.proofs.Common.{◌≡◌, sym, subst, ◌∙◌, arith, ℕ, List, Some, slice_get}
use Rattle.std.proofs.lemmas.Option.{same_Some, slice_get_within}
use Rattle.std.specs.FinMap.{entries, get}
use Rattle.plan_basics.specs.declared.keys.OpKey.{OpKey}
use Rattle.plan_model.specs.Contents.{Contents, Operation}
use Rattle.plan_model.specs.Status.{ArePreds, HasStatus}
use Rattle.plan_status.specs.Summaries.{AreSummaries, HasSummary, IsSummaryOf}
use Rattle.plan_status.specs.Incoming.{with_pairs}
use Rattle.plan_status.specs.declared.summaries.OperationSummary.{OperationSummary}
use Rattle.plan_laws.specs.plan_drafts.proofs.RowPlaces.{row_at}
use Rattle.plan_status.proofs.ByStanding.{status_on}
use Rattle.plan_status.proofs.LoadedRows.{row_found}
use Rattle.status_rules.specs.Table.{status_by}
use Rattle.status_rules.specs.declared.Preds.{Preds}

module _ (P : Contents) where
  -- whatever pairs the plan has, it says the same
  pub summarized_with : (pairs : List (OpKey × OpKey)) (o : OpKey) (b : OperationSummary) → HasSummary P o b → HasSummary (with_pairs pairs P) o b
  summarized_with pairs o b (op, found, is) = (
    op,
    found,
    record {
      mark = is.mark;
      held = is.held;
      nop = is.nop;
      attribute = is.attribute;
      station = is.station;
      duration = is.duration;
      deadline = is.deadline;
      r1 = is.r1;
      r2 = is.r2;
    },
  )

  -- an operation's index is one of a summary
  pub summary_at : (summaries : List OperationSummary) → AreSummaries P summaries → (i : ℕ) (o : OpKey) (op : Operation) → slice_get (entries P.operations) i ≡ Some (o, op)
      → (b : OperationSummary) × (slice_get summaries i ≡ Some b)
  summary_at summaries are i o op row = row_at summaries i (omega (arith, are.size, slice_get_within (entries P.operations) i (o, op) row))

  -- and at it is the operation's
  pub summary_there : (summaries : List OperationSummary) → AreSummaries P summaries → (i : ℕ) (o : OpKey) (op : Operation) (b : OperationSummary)
      → slice_get (entries P.operations) i ≡ Some (o, op) → slice_get summaries i ≡ Some b → IsSummaryOf P op b
  summary_there summaries are i o op b row at =
      let has = are.each i o op b row at in
      subst (λ x. IsSummaryOf P x b) (same_Some has.0 op (sym has.1 ∙ row_found P i o op row)) has.2

  -- with its predecessors' truth values it tells the status
  pub status_by_summary : (o : OpKey) (op : Operation) (b : OperationSummary) (p : Preds) → get P.operations o ≡ Some op → IsSummaryOf P op b → ArePreds P o p
      → HasStatus P o (status_by b.mark b.held b.nop b.attribute p)
  status_by_summary o op b p found is are =
      let same : status_by b.mark b.held b.nop b.attribute p ≡ status_by op.mark op.held op.nop b.attribute p = λ k. status_by (is.mark k) (is.held k) (is.nop k) b.attribute p in
      subst (HasStatus P o) (sym same) (status_on P o op b.attribute p found is.attribute are)
