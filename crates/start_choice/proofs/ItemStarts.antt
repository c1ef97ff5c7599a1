-- Latest starts by the items of summaries are those of their operations.
use Rattle.std.proofs.Common.{◌≡◌, ◌≢◌, sym, ap, subst, ◌∙◌, ℕ, ℤ, List, map, length, slice_get, Some, option_map}
use Rattle.std.specs.Map.{keys_of}
use Rattle.std.specs.FinMap.{entries, get}
use Rattle.std.proofs.lemmas.List.{length-map}
use Rattle.std.proofs.lemmas.Option.{get_or_from_slice_get, slice_get-map, same_Some}
use Rattle.plan_model.specs.operation_graph.specs.Graphs.{Digraph}
use Rattle.plan_model.specs.latest_start.specs.declared.Item.{Item}
use Rattle.plan_model.specs.latest_start.specs.NodeStarts.{AreLatestStartsOf, IsLiveBy, deadline_by, duration_by, item_of, no_item}
use Rattle.plan_basics.specs.declared.keys.OpKey.{OpKey}
use Rattle.status_rules.proofs.Live.{live_mark, mark_live}
use Rattle.status_rules.specs.Classes.{is_live}
use Rattle.status_rules.specs.declared.Mark.TheVariants as mark
use Rattle.counted_records.specs.plan_status.specs.Summaries.{AreSummaries, IsSummaryOf}
use Rattle.counted_records.specs.plan_status.specs.declared.summaries.OperationSummary.{OperationSummary}
use Rattle.plan_model.specs.Starts.{amount_of}
use Rattle.plan_model.specs.Contents.{Contents, IsLive, Operation}
use Rattle.counted_records.specs.plan_drafts.specs.PlanGraphs.{CountsAlike, HoldsAlike, IsGraphFor, JoinsAmong}
use Rattle.counted_records.specs.plan_drafts.proofs.PlacePaths.{least_starts_alike}
use Rattle.plan_model.specs.Valid.{IsValid}
use Rattle.counted_records.specs.plan_status.proofs.Summarized.{summary_at, summary_there}
use Rattle.counted_records.specs.plan_status.proofs.LoadedRows.{known_among, row_found}
use Rattle.counted_records.specs.plan_status.proofs.RowKeys.{key_of_row, row_of_key}
use Rattle.start_choice.specs.Choices.{AreLatestStarts}
use Rattle.start_choice.specs.StartItems.{start_item}

abbrev pub duration_in : Contents → OpKey → ℕ
duration_in P o = amount_of (get P.operations o) (λ op. op.duration)

abbrev pub deadline_in : Contents → OpKey → ℕ
deadline_in P o = amount_of (get P.operations o) (λ op. op.deadline)

-- what latest starts go by, one by one
abbrev pub items_by : List OperationSummary → List Item
items_by summaries = map start_item summaries

-- an operation, its summary, and the item at its index
pub record HasItem (P : Contents) (summaries : List OperationSummary) (i : ℕ) (o : OpKey) : Type 0 where
  pub op : Operation
  pub summary : OperationSummary
  pub found : get P.operations o ≡ Some op
  pub is : IsSummaryOf P op summary
  pub item : item_of (items_by summaries) i ≡ start_item summary

module _ (P : Contents) (h : IsValid P) (summaries : List OperationSummary) (are : AreSummaries P summaries) where
  abbrev rows : List (OpKey × Operation)
  rows = entries P.operations

  abbrev keys : List OpKey
  keys = keys_of rows

  standing : (i : ℕ) (o : OpKey) → slice_get keys i ≡ Some o → HasItem P summaries i o
  standing i o at =
      let row = row_of_key rows i o at in
      let b = summary_at P summaries are i o row.0 row.1 in
      record {
        op = row.0;
        summary = b.0;
        found = row_found P i o row.0 row.1;
        is = summary_there P summaries are i o row.0 b.0 row.1 b.1;
        item = get_or_from_slice_get (items_by summaries) i (start_item b.0) no_item (slice_get-map start_item summaries i ∙ ap (option_map start_item) b.1);
      }

  live_alike : HoldsAlike keys (IsLiveBy (items_by summaries)) (IsLive P)
  live_alike i o at = (to, back)
    where
      to : IsLiveBy (items_by summaries) i → IsLive P o
      to live = let s = standing i o at in (s.op, s.found, live_mark s.op.mark (ap is_live (sym s.is.mark) ∙ sym (ap (λ (z : Item). z.live) s.item) ∙ live))

      back : IsLive P o → IsLiveBy (items_by summaries) i
      back (op, is, not_deleted) =
          let s = standing i o at in
          ap (λ (z : Item). z.live) s.item ∙ ap is_live s.is.mark ∙ mark_live s.op.mark (subst (λ (z : Operation). z.mark ≢ mark.Deleted) (same_Some op s.op (sym is ∙ s.found)) not_deleted)

  durations_alike : CountsAlike keys (duration_by (items_by summaries)) (duration_in P)
  durations_alike i o at = let s = standing i o at in ap (λ (z : Item). z.duration) s.item ∙ s.is.duration ∙ sym (ap (λ x. amount_of x (λ op. op.duration)) s.found)

  deadlines_alike : CountsAlike keys (deadline_by (items_by summaries)) (deadline_in P)
  deadlines_alike i o at = let s = standing i o at in ap (λ (z : Item). z.deadline) s.item ∙ s.is.deadline ∙ sym (ap (λ x. amount_of x (λ op. op.deadline)) s.found)

  joins : JoinsAmong keys P.pairs
  joins p o pair =
      let ends = h.pairs p o pair in
      (known_among P p ends.0, known_among P o ends.1)

  module _ (g : Digraph) (graph : IsGraphFor P g) where
    -- there is an item for each node
    pub one_item_each : length (items_by summaries) ≡ g.nodes
    one_item_each = length-map summaries start_item ∙ are.size ∙ sym (graph.nodes ∙ length-map rows (λ (row : OpKey × Operation). row.0))

    -- the latest starts of the graph's nodes are those of the operations
    pub starts_of_summaries : (starts : List ℤ) → AreLatestStartsOf g (items_by summaries) starts → AreLatestStarts P starts
    starts_of_summaries starts latest = record {
      size = latest.size ∙ graph.nodes ∙ length-map rows (λ (row : OpKey × Operation). row.0);
      each = λ i o op v at is.
          (least_starts_alike keys P.pairs g graph (IsLiveBy (items_by summaries)) (IsLive P) live_alike joins
          (duration_by (items_by summaries)) (duration_in P) (deadline_by (items_by summaries)) (deadline_in P)
          durations_alike deadlines_alike i o v (key_of_row rows i o op at)).0 (latest.each i v is);
    }
