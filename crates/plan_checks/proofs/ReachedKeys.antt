-- What an index reaches in the graph are the indices of what its operation reaches.
use Rattle.std.proofs.Common.{◌≡◌, ◌≢◌, ◌↔◌, refl, sym, ap, subst, ◌∙◌, arith, ℕ, ◌<◌, true, false, ◌+◌, Bool, List, [], ◌∷◌, ◌++◌, All, Contains, length, map, drop, get_or, slice_get, MatchOption, Some, option_map}
use Rattle.std.proofs.lemmas.List.{append_assoc, at_drop_more, length-map, map-append}
use Rattle.std.proofs.lemmas.Option.{get_or_from_slice_get, slice_get-get_or, slice_get-map, slice_get_within, same_Some}
use Rattle.std.specs.FinMap.{entries, keys}
use Rattle.operation_graph.specs.Graphs.{AreExactly, Digraph, HasEdge, IsSet}
use Rattle.operation_graph.specs.Paths.{IsPathBy, ReachesBy, end_of}
use Rattle.plan_basics.proofs.Members.{contains_mapped, mapped_contains}
use Rattle.plan_basics.specs.Keys.{operation_cmp, operation_cmp_total, operation_cmp-IsAntisymmetric}
use Rattle.plan_basics.specs.declared.keys.OpKey.{OpKey}
use Rattle.plan_drafts.proofs.PlacePaths.{reach_alike}
use Rattle.plan_drafts.specs.PlanGraphs.{IsGraphFor, HoldsAlike, JoinsAmong, ReachAlike, StandAt}
use Rattle.plan_model.proofs.Members.{if_member, member_if}
use Rattle.plan_model.specs.Contents.{Contents, IsInPlan, IsLive, Operation, Precedes}
use Rattle.plan_model.specs.Starts.{Reaches}
use Rattle.plan_model.specs.Valid.{IsValid}
use Rattle.plan_model.proofs.Entries.{entries_in_order}
use Rattle.derived_figures.specs.plan_status.proofs.LoadedRows.{known_among, row_found, row_of}
use Rattle.derived_figures.specs.plan_status.proofs.RowKeys.{key_of_row, row_of_key}
use Rattle.plan_drafts.proofs.Lists.{all_by_members}
use Rattle.plan_model.specs.ready_list.specs.Choice.{is_among}
use Rattle.status_rules.specs.declared.Mark.TheVariants as mark
use Rattle.status_rules.proofs.Live.{live_mark, mark_live}
use Rattle.status_rules.specs.Classes.{is_live}
use Rattle.status_rules.specs.Table.{marked_status}
use Rattle.status_rules.specs.declared.Mark.{Mark}
use Rattle.status_rules.specs.declared.Status.{Status}
use Rattle.status_rules.specs.declared.Status.TheVariants as status
use Rattle.plan_model.specs.Status.{UnmarkedStatus}
use Rattle.plan_drafts.specs.Places.{AreStatuses}
use Rattle.plan_checks.specs.Reach.{is_live_status}

-- the keys so far, with one more
pub keys_more : (ks : List OpKey) (places : List ℕ) (found : List OpKey) (i d : ℕ) (k : OpKey) → i < length places → slice_get ks (get_or places i d) ≡ Some k
    → map (slice_get ks) places ≡ map Some found ++ map (slice_get ks) (drop i places) → map (slice_get ks) places ≡ map Some (found ++ k ∷ []) ++ map (slice_get ks) (drop (i + 1) places)
keys_more ks places found i d k lt at so_far =
    so_far
    ∙ ap (λ xs. map Some found ++ xs) (at_drop_more (map (slice_get ks)) places i d lt ∙ ap (λ x. x ∷ map (slice_get ks) (drop (i + 1) places)) at)
    ∙ sym (append_assoc (map Some found) (Some k ∷ []) (map (slice_get ks) (drop (i + 1) places)))
    ∙ ap (λ xs. xs ++ map (slice_get ks) (drop (i + 1) places)) (sym (map-append Some found (k ∷ [])))

-- a path ends in the plan that begins there
ends_in_plan : (P : Contents) (o : OpKey) (rest : List OpKey) → IsInPlan P o → IsPathBy (Precedes P) (IsLive P) o rest → IsInPlan P (end_of o rest)
ends_in_plan P o [] is path = is
ends_in_plan P o (b ∷ rest) is (e, live, path) = ends_in_plan P b rest (live.0, live.1, tt) path

-- what is reached from an operation of the plan is in the plan
pub all_in_plan : (P : Contents) (o : OpKey) (found : List OpKey) → IsInPlan P o → ((q : OpKey) → (is_among found q ≡ true) ↔ Reaches P o q) → All (IsInPlan P) found
all_in_plan P o found is among = all_by_members (IsInPlan P) found (λ q has.
    let r = (among q).0 (if_member operation_cmp_total found q has) in subst (IsInPlan P) r.2 (ends_in_plan P o r.0 is r.1))

-- what its status says of whether an operation is live
live_status : (P : Contents) (o : OpKey) (m : Mark) (s : Status) → MatchOption (marked_status m) (UnmarkedStatus P o s) (λ told. s ≡ told) → is_live_status s ≡ is_live m
live_status P o mark.Unmarked status.Deleted never = absurd never
live_status P o mark.Unmarked s h = refl
live_status P o mark.Named s h = ap is_live_status h
live_status P o mark.Running s h = ap is_live_status h
live_status P o mark.Interrupted s h = ap is_live_status h
live_status P o (mark.Error code) s h = ap is_live_status h
live_status P o mark.Undecided s h = ap is_live_status h
live_status P o mark.Deleted s h = ap is_live_status h
live_status P o mark.Done s h = ap is_live_status h

module _ (P : Contents) (valid : IsValid P) (g : Digraph) (graph : IsGraphFor P g) where
  abbrev rows : List (OpKey × Operation)
  rows = entries P.operations

  abbrev nodes : List OpKey
  nodes = keys P.operations

  joins : JoinsAmong nodes P.pairs
  joins p o pair = let ends = valid.pairs p o pair in (known_among P p ends.0, known_among P o ends.1)

  -- there are as many nodes as rows
  pub as_many : g.nodes ≡ length rows
  as_many = graph.nodes ∙ length-map rows (λ (row : OpKey × Operation). row.0)

  ends_within : (live : ℕ → Type 0) (i : ℕ) (rest : List ℕ) → i < length rows → IsPathBy (HasEdge g) live i rest → end_of i rest < length rows
  ends_within live i [] lt path = lt
  ends_within live i (j ∷ rest) lt (e, is, path) = let low = (graph.graph.ends i j e).1 in ends_within live j rest (omega (arith, low, as_many)) path

  pub reached_within : (live : ℕ → Type 0) (i : ℕ) (places : List ℕ) → i < length rows → AreExactly (ReachesBy (HasEdge g) live i) places → All (λ place. place < length rows) places
  reached_within live i places lt exactly = all_by_members (λ place. place < length rows) places (λ j has.
      let r = (exactly.1 j).0 has in subst (λ z. z < length rows) r.2 (ends_within live i r.0 lt r.1))

  -- these are the statuses of its operations
  module _ (statuses : List Status) (are : AreStatuses P statuses) where
    abbrev flags : List Bool
    flags = map is_live_status statuses

    flag_of : (i : ℕ) (o : OpKey) (op : Operation) → slice_get rows i ≡ Some (o, op) → get_or flags i false ≡ is_live op.mark
    flag_of i o op e =
        let within : i < length statuses = omega (arith, slice_get_within rows i (o, op) e, are.size) in
        let s = get_or statuses i status.Waiting in
        let at = slice_get-get_or statuses i status.Waiting within in
        let has = are.each i o op s e at in
        get_or_from_slice_get flags i (is_live_status s) false (slice_get-map is_live_status statuses i ∙ ap (option_map is_live_status) at)
        ∙ live_status P o has.0.mark s has.2
        ∙ ap (λ (x : Operation). is_live x.mark) (same_Some has.0 op (sym has.1 ∙ row_found P i o op e))

    live_alike : HoldsAlike nodes (IsSet flags) (IsLive P)
    live_alike i o e =
        let row = row_of_key rows i o e in
        let is = row_found P i o row.0 row.1 in
        let flag = flag_of i o row.0 row.1 in (
          λ set. (row.0, is, live_mark row.0.mark (sym flag ∙ set)),
          λ live. flag ∙ mark_live row.0.mark (subst (λ (op : Operation). op.mark ≢ mark.Deleted) (same_Some live.0 row.0 (sym live.1 ∙ is)) live.2),
        )

    alike : ReachAlike nodes P.pairs g (IsSet flags) (IsLive P)
    alike = reach_alike nodes P.pairs g graph (IsSet flags) (IsLive P) live_alike joins (entries_in_order operation_cmp P.operations)

    -- the keys at the indices that an index reaches are what its key reaches
    pub reached_among : (i : ℕ) (p : OpKey) (places : List ℕ) (found : List OpKey) → IsInPlan P p → slice_get nodes i ≡ Some p
        → AreExactly (ReachesBy (HasEdge g) (IsSet flags) i) places → StandAt nodes places found → (o : OpKey) → (is_among found o ≡ true) ↔ Reaches P p o
    reached_among i p places found known here exactly stand o = (to, back)
      where
        to : is_among found o ≡ true → Reaches P p o
        to has =
            let member = contains_mapped Some found o (member_if operation_cmp-IsAntisymmetric found o has) in
            let place = mapped_contains (slice_get nodes) places (Some o) (subst (λ xs. Contains xs (Some o)) (sym stand) member) in
            (alike i place.0 p o here place.1).0 ((exactly.1 place.0).0 place.2)

        back : Reaches P p o → is_among found o ≡ true
        back reached =
            let in_plan = subst (IsInPlan P) reached.2 (ends_in_plan P p reached.0 known reached.1) in
            let place = row_of P o in_plan.0 in_plan.1 in
            let there = key_of_row rows place.0 o in_plan.0 place.1 in
            let has = (exactly.1 place.0).1 ((alike i place.0 p o here there).1 reached) in
            let listed = mapped_contains Some found (Some o) (subst (λ xs. Contains xs (Some o)) stand (subst (Contains (map (slice_get nodes) places)) there (contains_mapped (slice_get nodes) places place.0 has))) in
            if_member operation_cmp_total found o (subst (Contains found) (same_Some listed.0 o listed.1) listed.2)
