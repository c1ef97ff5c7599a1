-- What is upstream of an index in the graph is what is upstream of its operation.
use Rattle.std.proofs.Common.{◌≡◌, inr, refl, sym, ap, subst, ◌∙◌, arith, ℕ, Bool, true, false, true≢false, not, List, [], ◌∷◌, get_or, slice_get, Some, option_map}
use Rattle.std.specs.FinMap.{entries, keys}
use Rattle.std.proofs.lemmas.Option.{get_or_from_slice_get, slice_get-map, slice_get_within}
use Rattle.operation_graph.specs.Graphs.{Digraph, HasEdge, IsSet}
use Rattle.operation_graph.specs.Paths.{IsPathBy, end_of}
use Rattle.plan_basics.proofs.Members.{place_of}
use Rattle.plan_basics.specs.declared.keys.OpKey.{OpKey}
use Rattle.plan_drafts.proofs.PairEdges.{same_key}
use Rattle.plan_drafts.proofs.RowPlaces.{row_at}
use Rattle.plan_drafts.specs.Places.{AreStatuses}
use Rattle.plan_drafts.specs.PlanGraphs.{IsGraphFor}
use Rattle.plan_core.specs.plan_laws.proofs.Classes.{satisfied_decides}
use Rattle.plan_model.specs.Contents.{Contents, Precedes}
use Rattle.plan_model.specs.Status.{HasStatus, IsSatisfied}
use Rattle.plan_model.specs.Valid.{IsValid}
use Rattle.plan_core.specs.plan_status.proofs.LoadedRows.{known_among, row_found}
use Rattle.plan_core.specs.plan_status.proofs.RowKeys.{row_of_key}
use Rattle.status_rules.specs.Classes.{is_satisfied}
use Rattle.status_rules.specs.LeastSet.{by_given}
use Rattle.status_rules.specs.declared.Status.{Status}
use Rattle.graph_paths.specs.Upstream.{IsFed, IsSource, LeadsBack}
use Rattle.graph_paths.specs.Upstream as upstream
use Rattle.plan_reasons.specs.Places.{unsatisfied_flags}
use Rattle.plan_reasons.specs.Reasons.{Follows, IsUnsatisfied}
use Rattle.plan_reasons.specs.Roots.{IsAfter, IsUpstream}

module _ (P : Contents) (valid : IsValid P) (g : Digraph) (graph : IsGraphFor P g) (statuses : List Status) (are : AreStatuses P statuses) where
  abbrev nodes : List OpKey
  nodes = keys P.operations

  abbrev flags : List Bool
  flags = unsatisfied_flags statuses

  -- ---- flags

  -- the flag of an operation is by its status
  flag_of : (i : ℕ) (o : OpKey) → slice_get nodes i ≡ Some o → (s : Status) × HasStatus P o s × (get_or flags i false ≡ not (is_satisfied s))
  flag_of i o at =
      let row = row_of_key (entries P.operations) i o at in
      let lt = slice_get_within (entries P.operations) i (o, row.0) row.1 in
      let s = row_at statuses i (omega (arith, lt, are.size)) in
      (s.0, are.each i o row.0 s.0 row.1 s.1, get_or_from_slice_get flags i (not (is_satisfied s.0)) false (slice_get-map (λ (t : Status). not (is_satisfied t)) statuses i ∙ ap (option_map (λ (t : Status). not (is_satisfied t))) s.1))

  pub unsatisfied_if_set : (i : ℕ) (o : OpKey) → slice_get nodes i ≡ Some o → IsSet flags i → IsUnsatisfied P o
  unsatisfied_if_set i o at set =
      let (s, has, flag) = flag_of i o at in
      let d = satisfied_decides P o s has in
      let off : ¬ IsSatisfied P o = λ h. true≢false (sym set ∙ flag ∙ ap not (d.1 h)) in
      let row = row_of_key (entries P.operations) i o at in
      let is = row_found P i o row.0 row.1 in
      ((row.0, is, λ deleted. off (by_given (row.0, is, inr deleted))), off)

  pub set_if_unsatisfied : (i : ℕ) (o : OpKey) → slice_get nodes i ≡ Some o → IsUnsatisfied P o → IsSet flags i
  set_if_unsatisfied i o at is =
      let (s, has, flag) = flag_of i o at in
      flag ∙ off (is_satisfied s) (satisfied_decides P o s has).0
    where
      off : (b : Bool) → (b ≡ true → IsSatisfied P o) → not b ≡ true
      off true h = absurd (is.1 (h refl))
      off false h = refl

  -- ---- pairs

  pub pair_of_edge : (i j : ℕ) (p o : OpKey) → slice_get nodes i ≡ Some p → slice_get nodes j ≡ Some o → HasEdge g i j → Precedes P p o
  pair_of_edge i j p o at_p at_o edge =
      let h = (graph.edges i j).0 edge in
      subst (λ x. Precedes P x o) (same_key nodes i h.0 p h.2 at_p) (subst (λ y. Precedes P h.0 y) (same_key nodes j h.1 o h.3 at_o) h.4)

  pub edge_of_pair : (i j : ℕ) (p o : OpKey) → slice_get nodes i ≡ Some p → slice_get nodes j ≡ Some o → Precedes P p o → HasEdge g i j
  edge_of_pair i j p o at_p at_o pair = (graph.edges i j).1 (p, o, at_p, at_o, pair)

  -- a predecessor is at some index, and so is what an edge leads from
  pub place_of_first : (p o : OpKey) → Precedes P p o → (i : ℕ) × (slice_get nodes i ≡ Some p)
  place_of_first p o pair = place_of nodes p (known_among P p (valid.pairs p o pair).0)

  key_of_first : (i j : ℕ) → HasEdge g i j → (p : OpKey) × (slice_get nodes i ≡ Some p)
  key_of_first i j edge = let h = (graph.edges i j).0 edge in (h.0, h.2)

  -- ---- paths upstream

  to_keys : (i : ℕ) (p : OpKey) (rest : List ℕ) → slice_get nodes i ≡ Some p → IsPathBy (LeadsBack g) (IsSet flags) i rest → (q : OpKey) × (slice_get nodes (end_of i rest) ≡ Some q) × IsUpstream P p q
  to_keys i p [] at path = (p, at, ([], tt, refl))
  to_keys i p (j ∷ rest) at path =
      let b = key_of_first j i path.0 in
      let r = to_keys j b.0 rest b.1 path.2 in
      let up = r.2 in
      (r.0, r.1, (b.0 ∷ up.0, (pair_of_edge j i b.0 p b.1 at path.0, unsatisfied_if_set j b.0 b.1 path.1, up.1), up.2))

  to_places : (i : ℕ) (p : OpKey) (rest : List OpKey) → slice_get nodes i ≡ Some p → IsPathBy (IsAfter P) (IsUnsatisfied P) p rest → (n : ℕ) × (slice_get nodes n ≡ Some (end_of p rest)) × upstream.IsUpstream g flags i n
  to_places i p [] at path = (i, at, ([], tt, refl))
  to_places i p (b ∷ rest) at path =
      let j = place_of_first b p path.0 in
      let r = to_places j.0 b rest j.1 path.2 in
      let up = r.2 in
      (r.0, r.1, (j.0 ∷ up.0, (edge_of_pair j.0 i b p j.1 at path.0, set_if_unsatisfied j.0 b j.1 path.1, up.1), up.2))

  -- ---- sources and roots

  pub root_of_source : (i n : ℕ) (o q : OpKey) → slice_get nodes i ≡ Some o → slice_get nodes n ≡ Some q → IsSource g flags i n → IsUpstream P o q × ((p : OpKey) → ¬ Follows P q p)
  root_of_source i n o q at_o at_q source =
      let up = source.0 in
      let r = to_keys i o up.0 at_o up.1 in
      let same : r.0 ≡ q = same_key nodes n r.0 q (ap (slice_get nodes) (sym up.2) ∙ r.1) at_q in (
        subst (IsUpstream P o) same r.2,
        λ p follows.
            let j = place_of_first p q follows.0 in
            source.1 (j.0, edge_of_pair j.0 n p q j.1 at_q follows.0, set_if_unsatisfied j.0 p j.1 follows.1),
      )

  pub source_of_root : (i : ℕ) (o q : OpKey) → slice_get nodes i ≡ Some o → IsUpstream P o q → ((p : OpKey) → ¬ Follows P q p) → (n : ℕ) × (slice_get nodes n ≡ Some q) × IsSource g flags i n
  source_of_root i o q at_o up ends =
      let r = to_places i o up.0 at_o up.1 in
      let at : slice_get nodes r.0 ≡ Some q = r.1 ∙ ap Some up.2 in (
        r.0,
        at,
        (
          r.2,
          λ fed.
              let b = key_of_first fed.0 r.0 fed.1 in
              ends b.0 (pair_of_edge fed.0 r.0 b.0 q b.1 at fed.1, unsatisfied_if_set fed.0 b.0 b.1 fed.2),
        ),
      )
