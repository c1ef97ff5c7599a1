-- What an operation waits for, and its roots, as they are found.
use Rattle.std.proofs.Common.{◌≡◌, ◌≢◌, ◌↔◌, refl, sym, subst, arith, ℕ, ◌<◌, List, [], map, Contains, Some, slice_get}
use Rattle.std.specs.FinMap.{keys}
use Rattle.std.specs.List.{AllPairs}
use Rattle.operation_graph.specs.Graphs.{Digraph, HasEdge, IsSet}
use Rattle.std.specs.declared.cmp.Ordering.TheVariants.{Less}
use Rattle.plan_basics.specs.Keys.{operation_cmp}
use Rattle.plan_basics.specs.declared.keys.OpKey.{OpKey}
use Rattle.plan_drafts.proofs.Lists.{contains_none, differ_from_pairs, differ_map, from_map, in_map, pairs_from_differ}
use Rattle.plan_drafts.specs.Places.{AreStatuses}
use Rattle.plan_drafts.specs.PlanGraphs.{IsGraphFor}
use Rattle.plan_core.specs.plan_laws.proofs.Standing.{one_status}
use Rattle.plan_model.specs.Contents.{Contents, Operation}
use Rattle.plan_model.specs.Status.{HasStatus}
use Rattle.plan_model.specs.Valid.{IsValid}
use Rattle.status_rules.specs.declared.Status.{Status}
use Rattle.status_rules.specs.declared.Status.TheVariants.{Waiting}
use Rattle.graph_paths.specs.Upstream.{IsSource}
use Rattle.plan_reasons.specs.Order.{ComesBefore, reason_place}
use Rattle.plan_reasons.specs.Parts.{AreOfKind}
use Rattle.plan_reasons.specs.Places.{AreAt, unsatisfied_flags}
use Rattle.plan_reasons.specs.Reasons.{IsReasonOf}
use Rattle.plan_reasons.specs.Whys.{AreRoots}
use Rattle.plan_reasons.specs.declared.reasons.Reason.{Reason}
use Rattle.plan_reasons.specs.declared.reasons.Reason.TheVariants as reason
use Rattle.plan_reasons.specs.declared.reasons.Unsatisfied.{Unsatisfied}
use Rattle.plan_reasons.proofs.Found.{found_at_place, found_in_order, place_of_found, status_of_found}
use Rattle.plan_reasons.proofs.KindPlaces.{only_waits}
use Rattle.plan_reasons.proofs.Rooting.{edge_of_pair, pair_of_edge, place_of_first, root_of_source, set_if_unsatisfied, source_of_root, unsatisfied_if_set}

-- what doesn't wait has no such reason, and no roots
module _ (P : Contents) (valid : IsValid P) (o : OpKey) (s : Status) (has : HasStatus P o s) (goes : s ≢ Waiting) where
  not_waiting : HasStatus P o Waiting → ⊥
  not_waiting h = goes (one_status P valid.acyclic o s Waiting has h)

  pub none_waited_for : (op : Operation) (m : ℕ) (found : List Reason) → found ≡ [] → AreOfKind P o op m 1 found
  none_waited_for op m found none = subst (AreOfKind P o op m 1) (sym none) (record {
    in_order = λ i j d lt within. absurd (omega (arith, within));
    exactly = λ r. (λ in_none. absurd (contains_none r in_none), λ h. absurd (only_waits (λ z. IsReasonOf P o op m z → ⊥) (λ x k. not_waiting k.0) r h.1 h.0));
  })

  pub no_roots : (found : List Unsatisfied) → found ≡ [] → AreRoots P o found
  no_roots found none = subst (AreRoots P o) (sym none) (record {
    in_order = λ i j d lt within. absurd (omega (arith, within));
    exactly = λ x. (λ in_none. absurd (contains_none x in_none), λ h. absurd (not_waiting h.0.0));
  })

module _ (P : Contents) (valid : IsValid P) (g : Digraph) (graph : IsGraphFor P g) (statuses : List Status) (are : AreStatuses P statuses) (place : ℕ) (o : OpKey) (at : slice_get (keys P.operations) place ≡ Some o) (waits : HasStatus P o Waiting)
    (places : List ℕ) (up : AllPairs (λ a b. a < b) places) (found : List Unsatisfied) (are_at : AreAt P places found) where
  -- one of them is known by its operation
  same_found : (x y : Unsatisfied) → Contains found y → y.op ≡ x.op → HasStatus P x.op x.status → y ≡ x
  same_found x y has same status =
      let one : y.status ≡ x.status = one_status P valid.acyclic x.op y.status x.status (subst (λ k. HasStatus P k y.status) same (status_of_found P places found are_at y has)) status in
      λ i. record { op = same i; status = one i }

  module _ (op : Operation) (m : ℕ) (exactly : (p : ℕ) → Contains places p ↔ (HasEdge g p place × IsSet (unsatisfied_flags statuses) p)) where
    sound : (x : Unsatisfied) → Contains found x → IsReasonOf P o op m (reason.WaitsFor x)
    sound x has =
        let (i, there, key) = place_of_found P places found are_at x has in
        let h = (exactly i).0 there in
        (waits, (pair_of_edge P valid g graph statuses are i place x.op o key at h.0, unsatisfied_if_set P valid g graph statuses are i x.op key h.1), status_of_found P places found are_at x has)

    complete : (x : Unsatisfied) → IsReasonOf P o op m (reason.WaitsFor x) → Contains found x
    complete x h =
        let follows = h.1 in
        let i = place_of_first P valid g graph statuses are x.op o follows.0 in
        let there = (exactly i.0).1 (edge_of_pair P valid g graph statuses are i.0 place x.op o i.1 at follows.0, set_if_unsatisfied P valid g graph statuses are i.0 x.op i.1 follows.1) in
        let (y, has, same) = found_at_place P places found are_at i.0 x.op there i.1 in
        subst (Contains found) (same_found x y has same h.2) has

    -- those that it waits for, one by one
    pub all_waited_for : AreOfKind P o op m 1 (map (λ (x : Unsatisfied). reason.WaitsFor x) found)
    all_waited_for = record {
      in_order = pairs_from_differ ComesBefore (map (λ (x : Unsatisfied). reason.WaitsFor x) found) (differ_map (λ (x : Unsatisfied). reason.WaitsFor x) ComesBefore found (differ_from_pairs (λ x y. operation_cmp x.op y.op ≡ Less) found (found_in_order P places found are_at up)));
      exactly = λ r. (
        λ has. let (x, there, is) = from_map (λ (z : Unsatisfied). reason.WaitsFor z) found r has in subst (λ z. IsReasonOf P o op m z × (reason_place z ≡ 1)) is (sound x there, refl),
        λ h. only_waits (λ z. IsReasonOf P o op m z → Contains (map (λ (x : Unsatisfied). reason.WaitsFor x) found) z) (λ x k. in_map (λ (z : Unsatisfied). reason.WaitsFor z) found x (complete x k)) r h.1 h.0,
      );
    }

  module _ (exactly : (n : ℕ) → Contains places n ↔ IsSource g (unsatisfied_flags statuses) place n) where
    -- the roots, one by one
    pub all_roots : AreRoots P o found
    all_roots = record {
      in_order = found_in_order P places found are_at up;
      exactly = λ x. (
        λ has.
            let (n, there, key) = place_of_found P places found are_at x has in
            let r = root_of_source P valid g graph statuses are place n o x.op at key ((exactly n).0 there) in
            ((waits, r.0, r.1), status_of_found P places found are_at x has),
        λ h.
            let root = h.0 in
            let (n, key, source) = source_of_root P valid g graph statuses are place o x.op at root.1 root.2 in
            let (y, has, same) = found_at_place P places found are_at n x.op ((exactly n).1 source) key in
            subst (Contains found) (same_found x y has same h.1) has,
      );
    }
