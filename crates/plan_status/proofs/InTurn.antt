-- The edges of a plan's graph, as pairs of keys, are in turn.
use Rattle.std.proofs.Common.{◌≡◌, inl, inr, sym, ◌∙◌, ap, subst, arith, ℕ, zero, suc, ◌+◌, ◌<◌, ◌≤◌, true, false, cond, List, [], ◌∷◌, ◌++◌, length, get_or, map, take, Some, Option, option_map, unwrap_or, slice_get, Contains, ◌↔◌}
use Rattle.std.specs.FinMap.{entries, get}
use Rattle.std.specs.FinSet as set
use Rattle.std.specs.FinSet.{from_list, same_set}
use Rattle.std.proofs.lemmas.List.{map-append, take_all, take_more}
use Rattle.std.proofs.lemmas.Option.{slice_get-get_or, slice_get_within, get_or_from_slice_get}
use Rattle.plan_basics.specs.declared.limits.TheConstants.{MOST_PAIRS}
use Rattle.plan_laws.specs.operation_graph.specs.Graphs.{AreDifferent, AreInTurn, Digraph, HasEdge}
use Rattle.plan_basics.proofs.Members.{contains_cases, contains_none}
use Rattle.plan_basics.specs.Keys.{operation_cmp, operation_cmp_total, operation_cmp-IsAntisymmetric}
use Rattle.plan_basics.specs.declared.keys.OpKey.{OpKey}
use Rattle.plan_laws.specs.plan_drafts.proofs.KeyPlaces.{listed_in, in_listed, pair_cmp_total, pair_cmp-IsAntisymmetric}
use Rattle.plan_model.specs.Contents.{Contents, IsPairOf, Operation, pair_cmp}
use Rattle.plan_laws.specs.plan_drafts.proofs.Pairs.{pair_cases, pair_pushed}
use Rattle.plan_laws.specs.plan_drafts.proofs.Lists.{from_map, in_map}
use Rattle.plan_laws.specs.plan_drafts.specs.PlanGraphs.{IsGraphFor}
use Rattle.plan_model.specs.Valid.{IsValid}
use Rattle.plan_model.proofs.Entries.{entries_are, entries_in_order}
use Rattle.plan_laws.specs.plan_drafts.proofs.Tables.{is_found}
use Rattle.std.proofs.lemmas.Bool.{false_from_ne_true}
use Rattle.plan_laws.proofs.Single.{same_bool}
use Rattle.plan_laws.specs.plan_drafts.proofs.RowPlaces.{place_of_found}
use Rattle.plan_status.proofs.Ascending.{one_place}
use Rattle.plan_status.proofs.RowKeys.{key_of_row, row_of_key}
use Rattle.plan_status.specs.Incoming.{ComesAfter}

abbrev Rows : Type 0
Rows = List (OpKey × Operation)

abbrev Edge : Type 0
Edge = ℕ × ℕ

-- the key at an index, some other where there is none
abbrev key_at : Rows → ℕ → OpKey
key_at rows i = unwrap_or (option_map (λ (row : OpKey × Operation). row.0) (slice_get rows i)) (record { occurrence = record { app = []; arrival = 0 }; number = 0 })

-- the pair of an edge
abbrev pub pair_of : Rows → Edge → OpKey × OpKey
pair_of rows e = (key_at rows e.0, key_at rows e.1)

-- the pairs of the first edges
abbrev pub pairs_so_far : Rows → List Edge → ℕ → List (OpKey × OpKey)
pairs_so_far rows edges i = map (pair_of rows) (take i edges)

key_is : (rows : Rows) (i : ℕ) (k : OpKey) (op : Operation) → slice_get rows i ≡ Some (k, op) → key_at rows i ≡ k
key_is rows i k op e = ap (λ (z : Option (OpKey × Operation)). unwrap_or (option_map (λ (row : OpKey × Operation). row.0) z) (record { occurrence = record { app = []; arrival = 0 }; number = 0 })) e

-- an element of the first ones is before that index
in_taken : {X : Type 0} (i : ℕ) (xs : List X) (x : X) → Contains (take i xs) x → (j : ℕ) × (j < i) × (slice_get xs j ≡ Some x)
in_taken zero xs x h = absurd (contains_none x h)
in_taken (suc i) [] x h = absurd (contains_none x h)
in_taken (suc i) (y ∷ xs) x h = elim (contains_cases y (take i xs) x h) [
  | inl here ↦ (0, omega arith, ap Some here)
  | inr later ↦ let found = in_taken i xs x later in (suc found.0, let less = found.1 in omega (arith, less), found.2)
]

taken_in : {X : Type 0} (i : ℕ) (xs : List X) (x : X) → i < length xs → slice_get xs i ≡ Some x → Contains xs x
taken_in i xs x lt at = (i, lt, get_or_from_slice_get xs i x x at)

-- these are all edges of the graph, in turn
pub record AreAllInTurn (g : Digraph) (edges : List Edge) : Type 0 where
  pub different : AreDifferent edges
  pub listed : (p s : ℕ) → Contains edges (p, s) ↔ HasEdge g p s
  pub turn : AreInTurn edges

-- they are, where a slice lends them
pub all_lent : (g : Digraph) (lent edges : List Edge) → lent ≡ edges → AreDifferent edges × ((p s : ℕ) → Contains edges (p, s) ↔ HasEdge g p s) → AreInTurn edges → AreAllInTurn g lent
all_lent g lent edges same told turn = subst (AreAllInTurn g) (sym same) (record { different = told.0; listed = told.1; turn = turn })

-- an edge's ends are rows, and their keys are a pair of the plan
pub record IsPairAt (P : Contents) (e : Edge) : Type 0 where
  pub before : Operation
  pub after : Operation
  pub first : slice_get (entries P.operations) e.0 ≡ Some ((pair_of (entries P.operations) e).0, before)
  pub second : slice_get (entries P.operations) e.1 ≡ Some ((pair_of (entries P.operations) e).1, after)
  pub is_pair : IsPairOf P.pairs (pair_of (entries P.operations) e).0 (pair_of (entries P.operations) e).1

pub ends_within : (P : Contents) (e : Edge) → IsPairAt P e → (e.0 < length (entries P.operations)) × (e.1 < length (entries P.operations))
ends_within P e pair = (
  slice_get_within (entries P.operations) e.0 ((pair_of (entries P.operations) e).0, pair.before) pair.first,
  slice_get_within (entries P.operations) e.1 ((pair_of (entries P.operations) e).1, pair.after) pair.second,
)

module _ (P : Contents) (valid : IsValid P) (g : Digraph) (graph : IsGraphFor P g) (edges : List Edge) (all : AreAllInTurn g edges) where
  abbrev rows : Rows
  rows = entries P.operations

  pair_is : (e : Edge) → HasEdge g e.0 e.1 → IsPairAt P e
  pair_is e has =
      let found = (graph.edges e.0 e.1).0 has in
      let p = found.0 in
      let o = found.1 in
      let first = row_of_key rows e.0 p found.2 in
      let second = row_of_key rows e.1 o found.3 in
      let same_p = sym (key_is rows e.0 p first.0 first.1) in
      let same_o = sym (key_is rows e.1 o second.0 second.1) in
      record {
        before = first.0;
        after = second.0;
        first = subst (λ k. slice_get rows e.0 ≡ Some (k, first.0)) same_p first.1;
        second = subst (λ k. slice_get rows e.1 ≡ Some (k, second.0)) same_o second.1;
        is_pair = subst (λ k. IsPairOf P.pairs (key_at rows e.0) k) same_o (subst (λ k. IsPairOf P.pairs k o) same_p found.4);
      }

  -- the edge at an index
  module _ (i : ℕ) (lt : i < length edges) (e : Edge) (at : slice_get edges i ≡ Some e) where
    has_edge : HasEdge g e.0 e.1
    has_edge = (all.listed e.0 e.1).0 (taken_in i edges e lt at)

    pair_at : IsPairAt P e
    pair_at = pair_is e has_edge

  -- the edge at an index below the length
  pub pair_below : (i : ℕ) → i < length edges → IsPairAt P (get_or edges i (0, 0))
  pair_below i lt = pair_at i lt (get_or edges i (0, 0)) (slice_get-get_or edges i (0, 0) lt)

  edge_of : (j : ℕ) (e : Edge) → slice_get edges j ≡ Some e → IsPairAt P e
  edge_of j e at = pair_at j (slice_get_within edges j e at) e at

  -- equal keys are at one index
  same_place : (i j : ℕ) (a b : OpKey) (v w : Operation) → slice_get rows i ≡ Some (a, v) → slice_get rows j ≡ Some (b, w) → a ≡ b → i ≡ j
  same_place i j a b v w at_i at_j same = one_place operation_cmp_total rows (entries_in_order operation_cmp P.operations) i j a v w at_i (subst (λ k. slice_get rows j ≡ Some (k, w)) (sym same) at_j)

  module _ (i : ℕ) (lt : i < length edges) (e : Edge) (at : slice_get edges i ≡ Some e) where
    here : get_or edges i e ≡ e
    here = get_or_from_slice_get edges i e e at

    -- an earlier edge
    earlier : (d : Edge) → Contains (take i edges) d → (j : ℕ) × (j < i) × (slice_get edges j ≡ Some d)
    earlier d = in_taken i edges d

    pub comes_after : ComesAfter (pairs_so_far rows edges i) (pair_of rows e)
    comes_after = record {
      is_new = λ old.
          let found = from_map (pair_of rows) (take i edges) (pair_of rows e) (listed_in pair_cmp_total pair_cmp-IsAntisymmetric (map (pair_of rows) (take i edges)) (pair_of rows e) old) in
          let before = earlier found.0 found.1 in
          let its = edge_of before.0 found.0 before.2 in
          let own = edge_of i e at in
          let first = same_place (found.0).0 e.0 (pair_of rows found.0).0 (pair_of rows e).0 its.before own.before its.first own.first (ap (λ (z : OpKey × OpKey). z.0) found.2) in
          let second = same_place (found.0).1 e.1 (pair_of rows found.0).1 (pair_of rows e).1 its.after own.after its.second own.second (ap (λ (z : OpKey × OpKey). z.1) found.2) in
          all.different before.0 i e before.1 lt
          (get_or_from_slice_get edges before.0 found.0 e before.2 ∙ (λ k. (first k, second k)) ∙ sym here);
      leads_on = λ o leads. elim (pair_cases (pair_of rows e) (map (pair_of rows) (take i edges)) (pair_of rows e).1 o leads) [
        | inl old ↦
            let found = from_map (pair_of rows) (take i edges) ((pair_of rows e).1, o) (listed_in pair_cmp_total pair_cmp-IsAntisymmetric (map (pair_of rows) (take i edges)) ((pair_of rows e).1, o) old) in
            let before = earlier found.0 found.1 in
            let its = edge_of before.0 found.0 before.2 in
            let own = edge_of i e at in
            let same = same_place e.1 (found.0).0 (pair_of rows e).1 (pair_of rows found.0).0 own.after its.before own.second its.first (sym (ap (λ (z : OpKey × OpKey). z.0) found.2)) in
            all.turn.0 before.0 i e before.1 lt
            (ap (λ (z : Edge). z.1) here ∙ same ∙ sym (ap (λ (z : Edge). z.0) (get_or_from_slice_get edges before.0 found.0 e before.2)))
        | inr itself ↦
            let own = edge_of i e at in
            let same = same_place e.1 e.0 (pair_of rows e).1 (pair_of rows e).0 own.after own.before own.second own.first itself.0 in
            all.turn.1 i e lt (ap (λ (z : Edge). z.1) here ∙ same ∙ sym (ap (λ (z : Edge). z.0) here))
      ];
    }

    -- with one more edge, one more pair
    pub pairs_more : pairs_so_far rows edges (i + 1) ≡ pairs_so_far rows edges i ++ pair_of rows e ∷ []
    pairs_more = ap (map (pair_of rows)) (take_more edges i e lt) ∙ map-append (pair_of rows) (take i edges) (get_or edges i e ∷ []) ∙ ap (λ (z : Edge). pairs_so_far rows edges i ++ pair_of rows z ∷ []) here

  -- so many pairs
  len-so_far : (i : ℕ) → i ≤ length edges → set.len (from_list {R = pair_cmp} (pairs_so_far rows edges i)) ≡ i
  len-so_far zero le = set.len-empty pair_cmp
  len-so_far (suc i) le =
      let lt : i < length edges = omega (arith, le) in
      let e = edge_there i lt in
      let new : set.contains {R = pair_cmp} (from_list (pairs_so_far rows edges i)) (pair_of rows e.0) ≡ false = false_from_ne_true _ (comes_after i lt e.0 e.1).is_new in
      let ih = len-so_far i (omega (arith, le)) in
      let step : pairs_so_far rows edges (suc i) ≡ pairs_so_far rows edges i ++ pair_of rows e.0 ∷ [] = subst (λ n. pairs_so_far rows edges n ≡ pairs_so_far rows edges i ++ pair_of rows e.0 ∷ []) (more i) (pairs_more i lt e.0 e.1) in
      ap (λ ps. set.len (from_list {R = pair_cmp} ps)) step
      ∙ ap set.len (pair_pushed (pairs_so_far rows edges i) (pair_of rows e.0))
      ∙ set.len-insert pair_cmp_total (from_list (pairs_so_far rows edges i)) (pair_of rows e.0)
      ∙ ap (λ b. cond b (set.len (from_list {R = pair_cmp} (pairs_so_far rows edges i))) (set.len (from_list {R = pair_cmp} (pairs_so_far rows edges i)) + 1)) new
      ∙ omega (arith, ih)
    where
      more : (i : ℕ) → i + 1 ≡ suc i
      more i = omega arith

      edge_there : (i : ℕ) → i < length edges → (e : Edge) × (slice_get edges i ≡ Some e)
      edge_there i lt = (get_or edges i (0, 0), slice_get-get_or edges i (0, 0) lt)

  -- in the end they are the plan's pairs
  pub pairs_all : from_list {R = pair_cmp} (pairs_so_far rows edges (length edges)) ≡ P.pairs
  pairs_all = ap (λ es. from_list {R = pair_cmp} (map (pair_of rows) es)) (take_all (length edges) edges (omega arith)) ∙ same_set pair_cmp_total pair_cmp-IsAntisymmetric (from_list (map (pair_of rows) edges)) P.pairs alike
    where
      there : (x : OpKey × OpKey) → set.contains {R = pair_cmp} (from_list (map (pair_of rows) edges)) x ≡ true → set.contains P.pairs x ≡ true
      there x has =
          let found = from_map (pair_of rows) edges x (listed_in pair_cmp_total pair_cmp-IsAntisymmetric (map (pair_of rows) edges) x has) in
          subst (λ z. set.contains P.pairs z ≡ true) found.2 (pair_is found.0 ((all.listed (found.0).0 (found.0).1).0 found.1)).is_pair

      back : (x : OpKey × OpKey) → set.contains P.pairs x ≡ true → set.contains {R = pair_cmp} (from_list (map (pair_of rows) edges)) x ≡ true
      back x has =
          let ends = valid.pairs x.0 x.1 has in
          let whole = entries_are operation_cmp operation_cmp_total operation_cmp-IsAntisymmetric P.operations in
          let p = is_found (get P.operations x.0) ends.0 in
          let o = is_found (get P.operations x.1) ends.1 in
          let i = place_of_found operation_cmp operation_cmp_total operation_cmp-IsAntisymmetric rows x.0 p.0 (ap (λ m. get m x.0) whole ∙ p.1) in
          let j = place_of_found operation_cmp operation_cmp_total operation_cmp-IsAntisymmetric rows x.1 o.0 (ap (λ m. get m x.1) whole ∙ o.1) in
          let edge : HasEdge g i.0 j.0 = (graph.edges i.0 j.0).1 (x.0, x.1, key_of_row rows i.0 x.0 p.0 i.1, key_of_row rows j.0 x.1 o.0 j.1, has) in
          let is : ◌≡◌ {A = OpKey × OpKey} (pair_of rows (i.0, j.0)) x = λ k. (key_is rows i.0 x.0 p.0 i.1 k, key_is rows j.0 x.1 o.0 j.1 k) in
          in_listed pair_cmp_total pair_cmp-IsAntisymmetric (map (pair_of rows) edges) x (subst (Contains (map (pair_of rows) edges)) is (in_map (pair_of rows) edges (i.0, j.0) ((all.listed i.0 j.0).1 edge)))

      alike : (x : OpKey × OpKey) → set.contains {R = pair_cmp} (from_list (map (pair_of rows) edges)) x ≡ set.contains P.pairs x
      alike x = same_bool _ _ (there x) (back x)

  -- so that there are no more than a plan may have
  pub few_edges : length edges ≤ MOST_PAIRS
  few_edges =
      let most = valid.limits.pairs in
      let count = sym (len-so_far (length edges) (omega arith)) ∙ ap set.len pairs_all in
      omega (arith, most, count)
