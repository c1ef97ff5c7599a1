-- What operations' summaries tell of what they hold, and of what they can't hold.
use Rattle.std.proofs.Common.{◌≡◌, sym, ap, subst, ◌∙◌, refl, true≢false, arith, ℕ, ◌+◌, ◌<◌, ◌≤◌, Bool, true, false, ◌&&◌, List, length, take, get_or, slice_get, Option, Some, None, MatchOption}
use Rattle.std.specs.FinMap.{entries, get}
use Rattle.std.proofs.Math.Bool.{and-false}
use Rattle.std.proofs.lemmas.Bool.{and_from, and_parts}
use Rattle.std.proofs.lemmas.List.Sums.{count_by_more_no, count_by_more_yes}
use Rattle.std.proofs.lemmas.Option.{get_or_from_slice_get, same_Some, slice_get_within}
use Rattle.plan_basics.specs.Keys.{Name}
use Rattle.plan_basics.specs.declared.keys.OpKey.{OpKey}
use Rattle.special_resources.specs.declared.Claim.{Claim}
use Rattle.status_rules.specs.Classes.{is_ready}
use Rattle.status_rules.specs.Table.{marked_status}
use Rattle.status_rules.specs.declared.Mark.{Mark}
use Rattle.status_rules.specs.declared.Mark.TheVariants as mark
use Rattle.status_rules.specs.declared.Status.{Status}
use Rattle.status_rules.specs.declared.Status.TheVariants as status
use Rattle.counted_records.specs.plan_status.proofs.Summarized.{summary_at, summary_there}
use Rattle.counted_records.specs.plan_status.proofs.LoadedRows.{row_found}
use Rattle.counted_records.specs.plan_status.specs.Summaries.{AreSummaries, IsSummaryOf}
use Rattle.counted_records.specs.plan_status.specs.declared.summaries.OperationSummary.{OperationSummary}
use Rattle.counted_records.specs.plan_drafts.proofs.RowPlaces.{row_at}
use Rattle.counted_records.specs.plan_drafts.specs.Places.{AreStatuses}
use Rattle.plan_model.specs.Contents.{Contents, Operation, attribute_at}
use Rattle.plan_model.specs.Holdings.{holds_resource, holds_server, takes}
use Rattle.plan_model.specs.Status.{HasStatus, UnmarkedStatus}
use Rattle.start_choice.specs.SummarizedTakings.{holder_count, may_hold, takes_server_by_summary}
use Rattle.start_choice.specs.Takings.{takes_server}
use Rattle.start_choice.proofs.HeldRows.{IsHeldBy}

-- ---- statuses and marks

-- an operation of a ready status has a mark by which it holds nothing
mark_holds_none : (m : Mark) (s : Status) (U : Type 0) → MatchOption (marked_status m) U (λ told. s ≡ told) → is_ready s ≡ true → holds_resource true (marked_status m) ≡ false
mark_holds_none mark.Named s U e ready = absurd (true≢false (sym ready ∙ ap is_ready e))
mark_holds_none mark.Running s U e ready = absurd (true≢false (sym ready ∙ ap is_ready e))
mark_holds_none mark.Interrupted s U e ready = absurd (true≢false (sym ready ∙ ap is_ready e))
mark_holds_none (mark.Error code) s U e ready = absurd (true≢false (sym ready ∙ ap is_ready e))
mark_holds_none mark.Undecided s U e ready = absurd (true≢false (sym ready ∙ ap is_ready e))
mark_holds_none mark.Deleted s U e ready = refl
mark_holds_none mark.Done s U e ready = refl
mark_holds_none mark.Unmarked s U e ready = refl

-- what holds a resource as its need says holds one that is kept
holds_kept : (keep : Bool) (s : Option Status) → holds_resource keep s ≡ true → holds_resource true s ≡ true
holds_kept true s h = h
holds_kept false (Some status.Started) h = refl
holds_kept false (Some status.Undecided) h = refl
holds_kept false (Some status.Interrupted) h = refl
holds_kept false (Some status.Error) h = refl
holds_kept false (Some s) h = absurd (true≢false (sym h))
holds_kept false None h = absurd (true≢false (sym h))

-- ---- summaries

module _ (P : Contents) (op : Operation) (b : OperationSummary) (is : IsSummaryOf P op b) where
  -- it tells whether the operation holds a server of its workstation
  pub server_told : takes_server_by_summary b ≡ takes_server P op
  server_told = let attribute : Some b.attribute ≡ attribute_at P op.workstation = sym is.attribute in λ k. takes (attribute k) && holds_server (marked_status (is.mark k))

  -- what it tells may hold something is on a workstation where starts are known
  pub known_there : may_hold b ≡ true → takes (attribute_at P op.workstation) ≡ true
  known_there h = ap takes is.attribute ∙ (and_parts (takes (Some b.attribute)) (holds_resource true (marked_status b.mark)) h).0

  -- what it tells holds nothing does so
  pub holds_nothing : may_hold b ≡ false → (r : Name) (claim : Claim) → ¬ IsHeldBy P op r claim
  holds_nothing none r claim by =
      let known : takes (Some b.attribute) ≡ true = ap takes (sym is.attribute) ∙ by.known in
      let holds : holds_resource true (marked_status b.mark) ≡ true = ap (λ m. holds_resource true (marked_status m)) is.mark ∙ holds_kept by.keep (marked_status op.mark) by.holds in
      true≢false (sym (and_from (takes (Some b.attribute)) (holds_resource true (marked_status b.mark)) known holds) ∙ none)

  -- what is ready holds nothing
  pub ready_holds_none : (o : OpKey) (s : Status) → get P.operations o ≡ Some op → HasStatus P o s → is_ready s ≡ true → may_hold b ≡ false
  ready_holds_none o s found has ready =
      let its = subst (λ (x : Operation). MatchOption (marked_status x.mark) (UnmarkedStatus P o s) (λ told. s ≡ told)) (same_Some has.0 op (sym has.1 ∙ found)) has.2 in
      let none : holds_resource true (marked_status b.mark) ≡ false = ap (λ m. holds_resource true (marked_status m)) is.mark ∙ mark_holds_none op.mark s (UnmarkedStatus P o s) its ready in
      ap (λ z. takes (Some b.attribute) && z) none ∙ and-false (takes (Some b.attribute))

-- ---- how many

-- one more summary adds one at most
pub count_passed : (summaries : List OperationSummary) (i : ℕ) → i < length summaries → holder_count (take (i + 1) summaries) ≤ holder_count (take i summaries) + 1
count_passed summaries i lt = by (row_at summaries i lt).0 (may_hold (get_or summaries i (row_at summaries i lt).0)) refl
  where
    by : (d : OperationSummary) (told : Bool) → may_hold (get_or summaries i d) ≡ told → holder_count (take (i + 1) summaries) ≤ holder_count (take i summaries) + 1
    by d true e = omega (arith, count_by_more_yes may_hold summaries i d lt e)
    by d false e = omega (arith, count_by_more_no may_hold summaries i d lt e)

-- and none where its operation is ready
pub count_ready : (P : Contents) (summaries : List OperationSummary) → AreSummaries P summaries → (statuses : List Status) → AreStatuses P statuses
    → (i : ℕ) (o : OpKey) (op : Operation) (s : Status) → slice_get (entries P.operations) i ≡ Some (o, op) → slice_get statuses i ≡ Some s → is_ready s ≡ true
    → holder_count (take (i + 1) summaries) ≡ holder_count (take i summaries)
count_ready P summaries are statuses have i o op s row status ready =
    let b = summary_at P summaries are i o op row in
    let none = ready_holds_none P op b.0 (summary_there P summaries are i o op b.0 row b.1) o s (row_found P i o op row) (have.each i o op s row status) ready in
    count_by_more_no may_hold summaries i b.0 (slice_get_within summaries i b.0 b.1) (ap may_hold (get_or_from_slice_get summaries i b.0 b.0 b.1) ∙ none)
