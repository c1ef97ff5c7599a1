-- From numbers that a path leads over to the operations of these numbers, and back.
use Rattle.std.proofs.Common.{◌≡◌, inl, inr, refl, sym, ap, subst, ◌∙◌, true, arith, ℕ, zero, suc, ◌+◌, ◌<◌, List, [], ◌∷◌, ◌++◌, length, take, get_or, slice_get, All, Contains, Option, Some, None, is_some, MatchOption}
use Rattle.std.specs.List.{AllZip}
use Rattle.std.specs.BTreeMap.{BTreeMap}
use Rattle.std.proofs.lemmas.List.{take_more}
use Rattle.std.proofs.lemmas.List.Elements.{All-cons, All-nil}
use Rattle.std.proofs.lemmas.Option.{same_Some, slice_get_within}
use Rattle.graph_paths.specs.Returns.{NoneReturns, IsFirstToReturn, IsReturn, LeadsBackTo}
use Rattle.plan_basics.proofs.Members.{all_by_members, contains_cases, contains_head, contains_later, contains_none}
use Rattle.plan_basics.specs.declared.keys.OpKey.{OpKey}
use Rattle.plan_drafts.specs.declared.RowKey.{RowKey}
use Rattle.plan_drafts.specs.declared.RowKey.TheVariants as key
use Rattle.plan_drafts.specs.plan_model.specs.operation_graph.specs.Graphs.{IsEdgeOf, edges_of}
use Rattle.plan_drafts.specs.plan_model.specs.operation_graph.specs.Paths.{IsAcyclicBy, LeadsBy, by_edge, by_more}
use Rattle.plan_drafts.specs.plan_model.specs.operation_graph.proofs.EdgeSets.{edge_listed, listed_edge}
use Rattle.record_faults.specs.Sayings.{PlacedKeys, IsFirst, IsGiven, IsIndex, IsNowhere}
use Rattle.record_faults.proofs.Indexes.{one_given}
use Rattle.extension_faults.specs.Whole.{AreNumbered, ClosesAt, IsEdgeFor, IsListed, ends_of, number_in}

abbrev Pair : Type 0
Pair = OpKey × OpKey

abbrev Edge : Type 0
Edge = ℕ × ℕ

-- ---- two lists side by side
module _ {A B : Type 0} (R : A → B → Type 0) where
  zip_first : (xs : List A) (ys : List B) → AllZip R xs ys → (x : A) → Contains xs x → (y : B) × Contains ys y × R x y
  zip_first [] ys all x has = absurd (contains_none x has)
  zip_first (a ∷ xs) [] all x has = absurd all
  zip_first (a ∷ xs) (b ∷ ys) all x has = elim (contains_cases a xs x has) [
    | inl same ↦ (b, contains_head b ys, subst (λ z. R z b) same all.0)
    | inr later ↦ let r = zip_first xs ys all.1 x later in (r.0, contains_later b ys r.0 r.1, r.2)
  ]

  zip_second : (xs : List A) (ys : List B) → AllZip R xs ys → (y : B) → Contains ys y → (x : A) × Contains xs x × R x y
  zip_second xs [] all y has = absurd (contains_none y has)
  zip_second [] (b ∷ ys) all y has = absurd all
  zip_second (a ∷ xs) (b ∷ ys) all y has = elim (contains_cases b ys y has) [
    | inl same ↦ (a, contains_head a xs, subst (R a) same all.0)
    | inr later ↦ let r = zip_second xs ys all.1 y later in (r.0, contains_later a xs r.0 r.1, r.2)
  ]

  zip_at : (xs : List A) (ys : List B) → AllZip R xs ys → (i : ℕ) (y : B) → slice_get ys i ≡ Some y → (x : A) × (slice_get xs i ≡ Some x) × R x y
  zip_at xs [] all i y at = absurd (cc)
  zip_at [] (b ∷ ys) all i y at = absurd all
  zip_at (a ∷ xs) (b ∷ ys) all zero y at = (a, refl, subst (R a) (same_Some b y at) all.0)
  zip_at (a ∷ xs) (b ∷ ys) all (suc i) y at = zip_at xs ys all.1 i y at

  zip_take : (n : ℕ) (xs : List A) (ys : List B) → AllZip R xs ys → AllZip R (take n xs) (take n ys)
  zip_take zero xs ys all = tt
  zip_take (suc n) [] [] all = tt
  zip_take (suc n) [] (b ∷ ys) all = absurd all
  zip_take (suc n) (a ∷ xs) [] all = absurd all
  zip_take (suc n) (a ∷ xs) (b ∷ ys) all = (all.0, zip_take n xs ys all.1)

-- ---- ends
ends_append : (xs ys : List Pair) → ends_of (xs ++ ys) ≡ ends_of xs ++ ends_of ys
ends_append [] ys = refl
ends_append (x ∷ xs) ys = ap (λ (ks : PlacedKeys). Some (key.Operation x.0) ∷ Some (key.Operation x.1) ∷ ks) (ends_append xs ys)

-- with one pair more
pub ends_more : (pairs : List Pair) (i : ℕ) (pair : Pair) → i < length pairs → pair ≡ get_or pairs i pair → ends_of (take i pairs) ++ ends_of (pair ∷ []) ≡ ends_of (take (i + 1) pairs)
ends_more pairs i pair lt is =
    sym (ends_append (take i pairs) (pair ∷ [])) ∙ ap (λ (x : Pair). ends_of (take i pairs ++ x ∷ [])) is ∙ ap ends_of (sym (take_more pairs i pair lt))

end_given : (pairs : List Pair) (pair : Pair) → Contains pairs pair → ((a : ℕ) × IsGiven (ends_of pairs) (key.Operation pair.0) a) × ((b : ℕ) × IsGiven (ends_of pairs) (key.Operation pair.1) b)
end_given [] pair has = absurd (contains_none pair has)
end_given (x ∷ pairs) pair has = elim (contains_cases x pairs pair has) [
  | inl same ↦ ((0, ap (λ (z : Pair). Some (Some (key.Operation z.0))) same), (1, ap (λ (z : Pair). Some (Some (key.Operation z.1))) same))
  | inr later ↦ let r = end_given pairs pair later in ((suc (suc r.0.0), r.0.1), (suc (suc r.1.0), r.1.1))
]

-- ---- numbers
module _ (ends : PlacedKeys) (numbers : BTreeMap RowKey ℕ) (is : IsIndex ends numbers) where
  -- what has a number is there
  there : (o : OpKey) (n : ℕ) → number_in numbers o ≡ Some n → IsGiven ends (key.Operation o) n
  there o n e = (subst (λ (x : Option ℕ). MatchOption x (IsNowhere ends (key.Operation o)) (IsFirst ends (key.Operation o))) e (is (key.Operation o))).here

  one_there : (n : ℕ) (p q : OpKey) → IsGiven ends (key.Operation p) n → IsGiven ends (key.Operation q) n → p ≡ q
  one_there n p q at_p at_q = let same : key.Operation p ≡ key.Operation q = one_given ends n (key.Operation p) (key.Operation q) at_p at_q in cc

  numbered : (o : OpKey) (n : ℕ) → IsGiven ends (key.Operation o) n → is_some (number_in numbers o) ≡ true
  numbered o n at = elim (number_in numbers o) as (λ (x : Option ℕ). MatchOption x (IsNowhere ends (key.Operation o)) (IsFirst ends (key.Operation o)) → is_some x ≡ true) [
    | None ↦ λ nowhere. absurd (nowhere n at)
    | Some first ↦ λ _. refl
  ] (is (key.Operation o))

  -- all ends of the pairs have one
  pub all_numbered : (pairs : List Pair) → ends ≡ ends_of pairs → All (AreNumbered numbers) pairs
  all_numbered pairs same = all_by_members (AreNumbered numbers) pairs (λ pair has.
      let given = end_given pairs pair has in (
        numbered pair.0 given.0.0 (subst (λ (ks : PlacedKeys). IsGiven ks (key.Operation pair.0) given.0.0) (sym same) given.0.1),
        numbered pair.1 given.1.0 (subst (λ (ks : PlacedKeys). IsGiven ks (key.Operation pair.1) given.1.0) (sym same) given.1.1),
      ))

  module _ (pairs : List Pair) (edges : List Edge) (all : AllZip (IsEdgeFor numbers) pairs edges) where
    edge_for : (p s : OpKey) → Contains pairs (p, s) → (e : Edge) × Contains edges e × IsEdgeFor numbers (p, s) e
    edge_for p s has = zip_first (IsEdgeFor numbers) pairs edges all (p, s) has

    pair_for : (a b : ℕ) → Contains edges (a, b) → (pair : Pair) × Contains pairs pair × IsEdgeFor numbers pair (a, b)
    pair_for a b has = zip_second (IsEdgeFor numbers) pairs edges all (a, b) has

    -- the ends of edges are places
    pub edges_within : (n : ℕ) → n ≡ length ends → All (λ (e : Edge). (e.0 < n) × (e.1 < n)) edges
    edges_within n size = all_by_members (λ (e : Edge). (e.0 < n) × (e.1 < n)) edges (λ e has.
        let h = pair_for e.0 e.1 has in
        let first = slice_get_within ends e.0 (Some (key.Operation h.0.0)) (there h.0.0 e.0 h.2.0) in
        let second = slice_get_within ends e.1 (Some (key.Operation h.0.1)) (there h.0.1 e.1 h.2.1) in
        (omega (arith, first, size), omega (arith, second, size)))

    -- a path over numbers is one over operations
    by_operations : {a b : ℕ} → LeadsBy (IsEdgeOf (edges_of edges)) a b → (p : OpKey) × (s : OpKey) × IsGiven ends (key.Operation p) a × IsGiven ends (key.Operation s) b × LeadsBy (IsListed pairs) p s
    by_operations {a} {b} (by_edge e) = let h = pair_for a b (edge_listed edges a b e) in (h.0.0, h.0.1, there h.0.0 a h.2.0, there h.0.1 b h.2.1, by_edge h.1)
    by_operations {a} (by_more {b = c} e rest) =
        let h = pair_for a c (edge_listed edges a c e) in
        let r = by_operations rest in
        (h.0.0, r.1, there h.0.0 a h.2.0, r.3, by_more (subst (IsListed pairs h.0.0) (one_there c h.0.1 r.0 (there h.0.1 c h.2.1) r.2) h.1) r.4)

    none_by_numbers : IsAcyclicBy (IsListed pairs) → NoneReturns edges
    none_by_numbers none a path = let r = by_operations path in none r.0 (subst (LeadsBy (IsListed pairs) r.0) (one_there a r.1 r.0 r.3 r.2) r.4)

    -- and back
    by_numbers : {p s : OpKey} → LeadsBy (IsListed pairs) p s → (a : ℕ) × (b : ℕ) × (number_in numbers p ≡ Some a) × (number_in numbers s ≡ Some b) × LeadsBy (IsEdgeOf (edges_of edges)) a b
    by_numbers {p} {s} (by_edge has) = let h = edge_for p s has in (h.0.0, h.0.1, h.2.0, h.2.1, by_edge (listed_edge edges h.0.0 h.0.1 h.1))
    by_numbers {p} (by_more {b = q} has rest) =
        let h = edge_for p q has in
        let r = by_numbers rest in
        (h.0.0, r.1, h.2.0, r.3, by_more (listed_edge edges h.0.0 r.0 (subst (λ b. Contains edges (h.0.0, b)) (same_Some h.0.1 r.0 (sym h.2.1 ∙ r.2)) h.1)) r.4)

    pub none_by_operations : NoneReturns edges → IsAcyclicBy (IsListed pairs)
    none_by_operations none p path = let r = by_numbers path in none r.0 (subst (LeadsBy (IsEdgeOf (edges_of edges)) r.0) (same_Some r.1 r.0 (sym r.3 ∙ r.2)) r.4)

    -- the numbers of a way back are those of operations
    pub way_there : (a : ℕ) (places : List ℕ) (b : ℕ) → LeadsBackTo (λ p s. Contains edges (p, s)) a places b → All (λ place. (o : OpKey) × IsGiven ends (key.Operation o) place) places
    way_there a [] b h = All-nil (λ place. (o : OpKey) × IsGiven ends (key.Operation o) place)
    way_there a (c ∷ places) b h =
        let e = pair_for c a h.0 in
        All-cons (λ place. (o : OpKey) × IsGiven ends (key.Operation o) place) c places (e.0.0, there e.0.0 c e.2.0) (way_there c places b h.1)

    way_of : (a : ℕ) (places : List ℕ) (b : ℕ) (p : OpKey) (way : List OpKey) (s : OpKey) → IsGiven ends (key.Operation p) a → IsGiven ends (key.Operation s) b
        → LeadsBackTo (λ q r. Contains edges (q, r)) a places b → AllZip (λ place o. IsGiven ends (key.Operation o) place) places way → LeadsBackTo (IsListed pairs) p way s
    way_of a [] b p [] s at_p at_s e told = one_there a p s at_p (subst (λ z. IsGiven ends (key.Operation s) z) (sym e) at_s)
    way_of a [] b p (o ∷ way) s at_p at_s e told = absurd told
    way_of a (c ∷ places) b p [] s at_p at_s h told = absurd told
    way_of a (c ∷ places) b p (o ∷ way) s at_p at_s h told =
        let e = pair_for c a h.0 in
        let first : e.0.0 ≡ o = one_there c e.0.0 o (there e.0.0 c e.2.0) told.0 in
        let second : e.0.1 ≡ p = one_there a e.0.1 p (there e.0.1 a e.2.1) at_p in
        (subst (λ z. IsListed pairs z p) first (subst (λ z. IsListed pairs e.0.0 z) second e.1), way_of c places b o way s told.0 at_s h.1 told.1)

  -- what closes a path of edges does so of pairs
  pub closes_at : (pairs : List Pair) (edges : List Edge) → AllZip (IsEdgeFor numbers) pairs edges → (place : ℕ) (places : List ℕ) (way : List OpKey) → IsReturn edges place places → IsFirstToReturn edges place
      → AllZip (λ n o. IsGiven ends (key.Operation o) n) places way → ClosesAt pairs place way
  closes_at pairs edges all place places way (a, b, at, back) first told =
      let r = zip_at (IsEdgeFor numbers) pairs edges all place (a, b) at in (
        r.0.0,
        r.0.1,
        r.1,
        way_of pairs edges all a places b r.0.0 way r.0.1 (there r.0.0 a r.2.0) (there r.0.1 b r.2.1) back told,
        λ none. first.1 (none_by_numbers (take (place + 1) pairs) (take (place + 1) edges) (zip_take (IsEdgeFor numbers) (place + 1) pairs edges all) none),
      )
