-- The edges of a plan's graph, by the rows of its operations.
use Rattle.std.proofs.Common.{◌≡◌, sym, ◌∙◌, subst, ℕ, length, Some, slice_get}
use Rattle.std.specs.FinMap.{entries, keys}
use Rattle.std.proofs.lemmas.Map.Entries.{length-keys_of}
use Rattle.std.proofs.lemmas.Option.{same_Some}
use Rattle.plan_basics.specs.declared.keys.OpKey.{OpKey}
use Rattle.plan_model.specs.Contents.{Precedes}
use Rattle.plan_model.specs.operation_graph.specs.Graphs.{Digraph, HasEdge}
use Rattle.plan_reasons.specs.plan_drafts.specs.PlanGraphs.{IsGraphFor}
use Rattle.plan_reasons.specs.plan_core.specs.plan_status.proofs.RowKeys.{key_of_row, row_of_key}
use Rattle.plan_outlooks.specs.Forecasts.{Forecast}
use Rattle.plan_outlooks.specs.Lent.{IsOfRow}

module _ (F : Forecast) (g : Digraph) (is : IsGraphFor F.plan.contents g) where
  pub nodes_are : g.nodes ≡ length (entries F.plan.contents.operations)
  nodes_are = is.nodes ∙ length-keys_of (entries F.plan.contents.operations)

  key_at : (i : ℕ) (o : OpKey) → IsOfRow F i o → slice_get (keys F.plan.contents.operations) i ≡ Some o
  key_at i o at = key_of_row (entries F.plan.contents.operations) i o at.0 at.1

  pub edge_before : (i j : ℕ) (p o : OpKey) → IsOfRow F i p → IsOfRow F j o → Precedes F.plan.contents p o → HasEdge g i j
  edge_before i j p o at there before = (is.edges i j).1 (p, o, key_at i p at, key_at j o there, before)

  pub before_by_edge : (i j : ℕ) (p o : OpKey) → IsOfRow F i p → IsOfRow F j o → HasEdge g i j → Precedes F.plan.contents p o
  before_by_edge i j p o at there edge =
      let (a, b, first, second, before) = (is.edges i j).0 edge in
      let same_first = same_Some a p (sym first ∙ key_at i p at) in
      let same_second = same_Some b o (sym second ∙ key_at j o there) in
      subst (λ z. Precedes F.plan.contents z o) same_first (subst (λ z. Precedes F.plan.contents a z) same_second before)

  -- the row of a node that an edge leaves
  pub row_by_edge : (i j : ℕ) → HasEdge g i j → (p : OpKey) × IsOfRow F i p
  row_by_edge i j edge =
      let (a, b, first, second, before) = (is.edges i j).0 edge in
      let r = row_of_key (entries F.plan.contents.operations) i a first in
      (a, (r.0, r.1))
