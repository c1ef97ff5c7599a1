-- From places that a path leads over to the operations there, and back.
use Rattle.std.proofs.Common.{◌≡◌, inl, inr, refl, sym, ap, subst, ◌∙◌, arith, ℕ, zero, suc, ◌+◌, ◌<◌, List, [], ◌∷◌, ◌++◌, length, take, get_or, slice_get, All, Contains, Option, Some, None, is_some, true, MatchOption}
use Rattle.std.specs.List.{AllZip}
use Rattle.std.specs.BTreeMap.{BTreeMap}
use Rattle.std.proofs.lemmas.Bool.{cases_lt}
use Rattle.std.proofs.lemmas.Option.{none-some, same_Some, slice_get_within}
use Rattle.std.proofs.lemmas.List.Elements.{All-contains, All-nil, All-cons, Contains-append_left, Contains-append_right, Contains-append_cases}
use Rattle.operation_graph.specs.Paths.{LeadsBy, by_edge, by_more}
use Rattle.operation_graph.specs.Graphs.{IsEdgeOf, edges_of}
use Rattle.operation_graph.proofs.EdgeSets.{listed_edge}
use Rattle.plan_basics.proofs.Members.{all_by_members, contains_head, contains_cases, contains_none, at_place}
use Rattle.plan_basics.specs.declared.keys.OpKey.{OpKey}
use Rattle.plan_drafts.specs.declared.RowKey.{RowKey}
use Rattle.plan_drafts.specs.declared.RowKey.TheVariants as key
use Rattle.graph_paths.specs.Returns.{NoneReturns, IsReturn, LeadsBackTo}
use Rattle.record_faults.specs.Sayings.{PlacedKeys, IsGiven, IsFirst, IsNowhere, IsIndex, place_in}
use Rattle.record_faults.specs.Circles.{StandsAt, HasPair, JoinsGiven, IsEdgeOfKeys, IsEdgeAt, IsDependencyOf, AreEdgesBelow, NoCircle, IsClosing, IsCircle}
use Rattle.record_faults.proofs.Indexes.{one_given}
use Rattle.record_faults.proofs.Gathering.{zip_more}
use Rattle.record_faults.proofs.Loading.{map_same}

-- one more of each of two lists that go side by side
pub zip_last : {A B : Type 0} (R : A → B → Type 0) (xs : List A) (ys : List B) (i : ℕ) (x : A) (y : B) → i < length xs → x ≡ get_or xs i x → AllZip R (take i xs) ys → R x y → AllZip R (take (i + 1) xs) (ys ++ y ∷ [])
zip_last R xs ys i x y lt is all one =
    subst (λ zs. AllZip R zs (ys ++ y ∷ [])) (map_same (take (i + 1) xs)) (zip_more R (λ z. z) xs ys i x y lt is (subst (λ zs. AllZip R zs ys) (sym (map_same (take i xs))) all) one)

-- what is read of a list within it, whatever is read past its end
pub whatever_default : {X : Type 0} (xs : List X) (i : ℕ) (d r : X) → i < length xs → get_or xs i d ≡ get_or xs i r
whatever_default [] i d r lt = absurd (omega (arith, lt))
whatever_default (x ∷ xs) zero d r lt = refl
whatever_default (x ∷ xs) (suc i) d r lt = whatever_default xs i d r (omega (arith, lt))

-- ---- places of operations
-- a key has one first place, and a place gives one operation's key
pub same_first : {K : Type 0} (keys : List (Option K)) (k : K) (a b : ℕ) → IsFirst keys k a → IsFirst keys k b → a ≡ b
same_first keys k a b first second = elim (cases_lt a b) [
  | inl lt ↦ absurd (second.none_before a lt first.here)
  | inr le ↦ elim (cases_lt b a) [ inl lt ↦ absurd (first.none_before b lt second.here) | inr more ↦ omega (arith, le, more) ]
]

module _ (keys : PlacedKeys) where
  one_operation : (i : ℕ) (a b : OpKey) → StandsAt keys i a → StandsAt keys i b → a ≡ b
  one_operation i a b at_a at_b = let same : key.Operation a ≡ key.Operation b = one_given keys i (key.Operation a) (key.Operation b) at_a.here at_b.here in cc

  one_dependency : (i : ℕ) (p s q t : OpKey) → IsGiven keys (key.Dependency p s) i → IsGiven keys (key.Dependency q t) i → (p ≡ q) × (s ≡ t)
  one_dependency i p s q t at_a at_b = let same : key.Dependency p s ≡ key.Dependency q t = one_given keys i (key.Dependency p s) (key.Dependency q t) at_a at_b in (cc, cc)

  -- ---- the edge of a place
  -- a place that gives no dependency has none
  pub no_dependency : (i : ℕ) → ((p s : OpKey) → ¬ IsGiven keys (key.Dependency p s) i) → IsEdgeAt keys i None
  no_dependency i none = (tt, λ a b p s at. absurd (none p s at))

  module _ (i : ℕ) (p s : OpKey) (here : IsGiven keys (key.Dependency p s) i) where
    pub no_from : IsNowhere keys (key.Operation p) → IsEdgeAt keys i None
    no_from nowhere = (tt, λ a b q t at from to. let same = (one_dependency i q t p s at here).0 in absurd (nowhere a (subst (λ z. IsGiven keys (key.Operation z) a) same from.here)))

    pub no_to : IsNowhere keys (key.Operation s) → IsEdgeAt keys i None
    no_to nowhere = (tt, λ a b q t at from to. let same = (one_dependency i q t p s at here).1 in absurd (nowhere b (subst (λ z. IsGiven keys (key.Operation z) b) same to.here)))

    pub edge_is : (a b : ℕ) → StandsAt keys a p → StandsAt keys b s → IsEdgeAt keys i (Some (a, b))
    edge_is a b from to = (
      (p, s, from, to, (i, here)),
      λ c d q t at start end.
          let same = one_dependency i q t p s at here in
          let first : a ≡ c = same_first keys (key.Operation p) a c from (subst (λ z. StandsAt keys c z) same.0 start) in
          let second : b ≡ d = same_first keys (key.Operation s) b d to (subst (λ z. StandsAt keys d z) same.1 end) in
          λ k. Some (first k, second k),
    )

  -- ---- all edges
  pub no_edges : AreEdgesBelow keys 0 []
  no_edges = record { sound = All-nil (IsEdgeOfKeys keys); complete = λ i a b p s lt. absurd (omega (arith, lt)) }

  pub edges_none : (n : ℕ) (edges : List (ℕ × ℕ)) → IsEdgeAt keys n None → AreEdgesBelow keys n edges → AreEdgesBelow keys (n + 1) edges
  edges_none n edges none are = record {
    sound = are.sound;
    complete = λ i a b p s lt at from to. elim (cases_lt i n) [
      | inl less ↦ are.complete i a b p s less at from to
      | inr more ↦ let same : i ≡ n = omega (arith, lt, more) in absurd (none-some (a, b) (none.1 a b p s (subst (IsGiven keys (key.Dependency p s)) same at) from to))
    ];
  }

  pub edges_more : (n : ℕ) (edges : List (ℕ × ℕ)) (e : ℕ × ℕ) → IsEdgeAt keys n (Some e) → AreEdgesBelow keys n edges → AreEdgesBelow keys (n + 1) (edges ++ e ∷ [])
  edges_more n edges e one are = record {
    sound = all_by_members (IsEdgeOfKeys keys) (edges ++ e ∷ []) (λ x has. elim (Contains-append_cases edges (e ∷ []) x has) [
      | inl before ↦ All-contains (IsEdgeOfKeys keys) edges x are.sound before
      | inr last ↦ elim (contains_cases e [] x last) [ inl same ↦ subst (IsEdgeOfKeys keys) same one.0 | inr nowhere ↦ absurd (contains_none x nowhere) ]
    ]);
    complete = λ i a b p s lt at from to. elim (cases_lt i n) [
      | inl less ↦ Contains-append_left edges (e ∷ []) (a, b) (are.complete i a b p s less at from to)
      | inr more ↦
          let same : i ≡ n = omega (arith, lt, more) in
          let is : ◌≡◌ {A = ℕ × ℕ} e (a, b) = same_Some e (a, b) (one.1 a b p s (subst (IsGiven keys (key.Dependency p s)) same at) from to) in
          Contains-append_right edges (e ∷ []) (a, b) (subst (Contains (e ∷ [])) is (contains_head e []))
    ];
  }

  -- ---- edges and dependencies
  module _ (edges : List (ℕ × ℕ)) (are : AreEdgesBelow keys (length keys) edges) where
    -- both ends of an edge are places
    pub ends_within : All (λ (e : ℕ × ℕ). (e.0 < length keys) × (e.1 < length keys)) edges
    ends_within = all_by_members (λ (e : ℕ × ℕ). (e.0 < length keys) × (e.1 < length keys)) edges (λ e has.
        let is = All-contains (IsEdgeOfKeys keys) edges e are.sound has in
        (slice_get_within keys e.0 (Some (key.Operation is.0)) is.2.here, slice_get_within keys e.1 (Some (key.Operation is.1)) is.3.here))

    pub edge_at : (place : ℕ) (e : ℕ × ℕ) → slice_get edges place ≡ Some e → IsEdgeOfKeys keys e
    edge_at place e at = All-contains (IsEdgeOfKeys keys) edges e are.sound (at_place edges place e at)

    -- a path of dependencies is one over places
    leads : (p s : OpKey) (a b : ℕ) → StandsAt keys a p → StandsAt keys b s → LeadsBy (JoinsGiven keys) p s → LeadsBy (IsEdgeOf (edges_of edges)) a b
    leads p s a b from to (by_edge h) = by_edge (listed_edge edges a b (are.complete h.0.0 a b p s (slice_get_within keys h.0.0 (Some (key.Dependency p s)) h.0.1) h.0.1 from to))
    leads p s a b from to (by_more {b = q} h rest) =
        by_more (listed_edge edges a h.2.0 (are.complete h.0.0 a h.2.0 p q (slice_get_within keys h.0.0 (Some (key.Dependency p q)) h.0.1) h.0.1 from h.2.1)) (leads q s h.2.0 b h.2.1 to rest)

    pub no_circle : NoneReturns edges → NoCircle keys
    no_circle none p h = let start = start_of p p h in none start.0 (leads p p start.0 start.0 start.1 start.1 h)
      where
        start_of : (q s : OpKey) → LeadsBy (JoinsGiven keys) q s → (a : ℕ) × StandsAt keys a q
        start_of q s (by_edge e) = e.1
        start_of q s (by_more e rest) = e.1

    -- the places of a way back are those of operations
    pub way_stands : (a : ℕ) (places : List ℕ) (b : ℕ) → LeadsBackTo (λ p s. Contains edges (p, s)) a places b → All (λ place. (o : OpKey) × StandsAt keys place o) places
    way_stands a [] b h = All-nil (λ place. (o : OpKey) × StandsAt keys place o)
    way_stands a (c ∷ places) b h = let e = All-contains (IsEdgeOfKeys keys) edges (c, a) are.sound h.0 in All-cons (λ place. (o : OpKey) × StandsAt keys place o) c places (e.0, e.2) (way_stands c places b h.1)

    way_of_keys : (a : ℕ) (places : List ℕ) (b : ℕ) (p : OpKey) (way : List OpKey) (last : OpKey) → StandsAt keys a p → StandsAt keys b last → LeadsBackTo (λ q s. Contains edges (q, s)) a places b → AllZip (StandsAt keys) places way → LeadsBackTo (HasPair keys) p way last
    way_of_keys a [] b p [] last at_p at_last e all = one_operation a p last at_p (subst (λ z. StandsAt keys z last) (sym e) at_last)
    way_of_keys a [] b p (o ∷ way) last at_p at_last e all = absurd all
    way_of_keys a (c ∷ places) b p [] last at_p at_last h all = absurd all
    way_of_keys a (c ∷ places) b p (o ∷ way) last at_p at_last h all =
        let e = All-contains (IsEdgeOfKeys keys) edges (c, a) are.sound h.0 in
        let first : e.0 ≡ o = one_operation c e.0 o e.2 all.0 in
        let second : e.1 ≡ p = one_operation a e.1 p e.3 at_p in
        (subst (λ z. HasPair keys z p) first (subst (λ z. HasPair keys e.0 z) second e.4), way_of_keys c places b o way last all.0 at_last h.1 all.1)

    pub circle_is : (number : ℕ) (places : List ℕ) (edge : ℕ × ℕ) (way : List OpKey) (place : ℕ) (first : OpKey) → IsReturn edges number places → slice_get edges number ≡ Some edge → AllZip (StandsAt keys) places way → IsClosing keys edge place first → IsCircle keys place first way
    circle_is number places edge way place first (a, b, at, back) here all closing =
        let same : ◌≡◌ {A = ℕ × ℕ} (a, b) edge = same_Some (a, b) edge (sym at ∙ here) in
        let at_a = subst (λ z. StandsAt keys z first) (sym (ap (λ (e : ℕ × ℕ). e.0) same)) closing.1 in
        let at_b = subst (λ z. StandsAt keys z closing.0) (sym (ap (λ (e : ℕ × ℕ). e.1) same)) closing.2 in
        (closing.0, closing.3, way_of_keys a places b first way closing.0 at_a at_b back all)

  -- the place of an edge's dependency is found
  module _ (index : BTreeMap RowKey ℕ) (e : ℕ × ℕ) (k : RowKey) (is : IsIndex keys index) (edge : IsEdgeOfKeys keys e) (of : IsDependencyOf keys e k) where
    there : (i : ℕ) × IsGiven keys k i
    there =
        let one = one_operation e.0 edge.0 of.0 edge.2 of.3 in
        let two = one_operation e.1 edge.1 of.1 edge.3 of.4 in
        let pair : HasPair keys of.0 of.1 = subst (λ z. HasPair keys z of.1) one (subst (λ z. HasPair keys edge.0 z) two edge.4) in
        (pair.0, subst (λ z. IsGiven keys z pair.0) (sym of.2) pair.1)

    pub is_found : is_some (place_in index k) ≡ true
    is_found = elim (place_in index k) as (λ o. MatchOption o (IsNowhere keys k) (IsFirst keys k) → is_some o ≡ true) [ None ↦ λ nowhere. absurd (nowhere there.0 there.1) | Some place ↦ λ first. refl ] (is k)

    pub closing_at : (place : ℕ) → place_in index k ≡ Some place → (first : OpKey) → StandsAt keys e.0 first → IsClosing keys e place first
    closing_at place found first from =
        let here = subst (λ o. MatchOption o (IsNowhere keys k) (IsFirst keys k)) found (is k) in
        let same : of.0 ≡ first = one_operation e.0 of.0 first of.3 from in
        (of.1, from, of.4, subst (λ z. IsGiven keys (key.Dependency z of.1) place) same (subst (λ z. IsGiven keys z place) of.2 here.here))
