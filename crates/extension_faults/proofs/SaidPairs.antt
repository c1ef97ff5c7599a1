-- The pairs of what stays of the plan and of what is said, and paths of them.
use Rattle.std.proofs.Common.{◌≡◌, inl, inr, refl, sym, ap, subst, ◌∙◌, true, arith, ℕ, zero, suc, ◌+◌, ◌<◌, ◌≤◌, List, [], ◌∷◌, ◌++◌, length, take, get_or, slice_get, Contains, Option, Some, None, is_some, MatchOption, option_map}
use Rattle.std.specs.BTreeMap.{BTreeMap}
use Rattle.std.proofs.lemmas.Bool.{cases_lt}
use Rattle.std.specs.List.{cons_option}
use Rattle.std.specs.Option.{option_to_list}
use Rattle.std.proofs.lemmas.List.{take-append-le, take_more}
use Rattle.std.proofs.lemmas.List.Elements.{Contains-append_cases, Contains-append_left, Contains-append_right, filter_map-append}
use Rattle.std.proofs.lemmas.Option.{slice_get-map}
use Rattle.graph_paths.proofs.Firsts.{among_first}
use Rattle.graph_paths.specs.Returns.{LeadsBackTo}
use Rattle.plan_basics.proofs.Members.{at_place, place_of}
use Rattle.plan_basics.specs.declared.keys.OpKey.{OpKey}
use Rattle.record_faults.specs.plan_denotation.proofs.ItemKinds.{of_kind, pairs as pairs_kind}
use Rattle.plan_drafts.proofs.Lists.{from_filter, in_filter}
use Rattle.plan_drafts.specs.Records.{key_of}
use Rattle.plan_drafts.specs.declared.RowKey.{RowKey}
use Rattle.plan_drafts.specs.declared.RowKey.TheVariants as key
use Rattle.plan_drafts.specs.plan_model.specs.Contents.{Contents}
use Rattle.plan_drafts.specs.plan_model.specs.Valid.{IsAcyclic}
use Rattle.plan_drafts.specs.plan_model.specs.operation_graph.proofs.Ranks.{along}
use Rattle.plan_drafts.specs.plan_model.specs.operation_graph.specs.Paths.{IsAcyclicBy}
use Rattle.plan_items.specs.declared.Item.{Item}
use Rattle.plan_items.specs.declared.Item.TheVariants as item
use Rattle.record_faults.specs.Sayings.{Sayings, SaysAt, IsFirst, IsGiven, IsIndex, IsNowhere, given, place_in}
use Rattle.extension_faults.specs.Whole.{ArePairsBeside, ClosesAt, IsListed, NoneReturnsBeside, PrecedesBeside, SaysPair, pair_said, pairs_said}

-- ---- what is said
-- of what a pair is read, that says the dependency
said_is : (o : Option Item) (p s : OpKey) → pair_said o ≡ Some (p, s) → o ≡ Some (item.Dependency p s)
said_is None p s e = absurd (cc e)
said_is (Some x) p s e = ap Some (of_kind pairs_kind x (p, s) e).0

listed_said : (said : Sayings) (p s : OpKey) → Contains (pairs_said said) (p, s) → SaysPair said p s
listed_said said p s has =
    let r = from_filter pair_said said (p, s) has in
    let at = place_of said r.0 r.1 in
    (at.0, at.1 ∙ ap Some (said_is r.0 p s r.2))

said_listed : (said : Sayings) (p s : OpKey) → SaysPair said p s → Contains (pairs_said said) (p, s)
said_listed said p s h = in_filter pair_said said (Some (item.Dependency p s)) (p, s) (at_place said h.0 (Some (item.Dependency p s)) h.1) refl

said_given : (said : Sayings) (i : ℕ) (p s : OpKey) → SaysAt said i (item.Dependency p s) → IsGiven (given said) (key.Dependency p s) i
said_given said i p s h = slice_get-map (λ (o : Option Item). option_map key_of o) said i ∙ ap (option_map (λ (o : Option Item). option_map key_of o)) h

-- an item of a dependency's key says it
item_is : (x : Item) (p s : OpKey) → key_of x ≡ key.Dependency p s → x ≡ item.Dependency p s
item_is x p s e = elim (pairs_kind.told x) [
  | inl (z, is, read, tagged) ↦ is ∙ ap (λ (y : OpKey × OpKey). item.Dependency y.0 y.1) (pairs_kind.exact z (p, s) (sym tagged ∙ e))
  | inr (none, never) ↦ absurd (never (p, s) e)
]

given_said : (said : Sayings) (i : ℕ) (p s : OpKey) → IsGiven (given said) (key.Dependency p s) i → SaysAt said i (item.Dependency p s)
given_said [] i p s e = absurd (cc e)
given_said (None ∷ said) zero p s e = absurd (cc e)
given_said (Some x ∷ said) zero p s e = let same : key_of x ≡ key.Dependency p s = cc e in ap (λ y. Some (Some y)) (item_is x p s same)
given_said (o ∷ said) (suc i) p s e = given_said said i p s e

-- what stands past the first list stands in the second
past : {X : Type 0} (xs ys : List X) (i : ℕ) (x : X) → slice_get (xs ++ ys) i ≡ Some x → length xs ≤ i → Contains ys x
past [] ys i x e le = at_place ys i x e
past (a ∷ xs) ys zero x e le = absurd (omega (arith, le))
past (a ∷ xs) ys (suc i) x e le = past xs ys i x e (omega (arith, le))

-- one record more
pub said_more : (said : Sayings) (i : ℕ) (o : Option Item) → i < length said → o ≡ get_or said i o → pairs_said (take i said) ++ option_to_list (pair_said o) ≡ pairs_said (take (i + 1) said)
said_more said i o lt is =
    ap (λ xs. pairs_said (take i said) ++ xs) (alone (pair_said o)) ∙ sym (filter_map-append pair_said (take i said) (o ∷ []))
    ∙ ap (λ z. pairs_said (take i said ++ z ∷ [])) is ∙ ap pairs_said (sym (take_more said i o lt))
  where
    alone : (x : Option (OpKey × OpKey)) → option_to_list x ≡ cons_option x []
    alone None = refl
    alone (Some x) = refl

-- ---- both
module _ (P : Contents) (said : Sayings) (pairs : List (OpKey × OpKey)) (are : ArePairsBeside P said pairs) where
  listed_precedes : (p s : OpKey) → IsListed pairs p s → PrecedesBeside P said p s
  listed_precedes p s has = elim (Contains-append_cases are.0 (pairs_said said) (p, s) (subst (λ xs. Contains xs (p, s)) are.2 has)) [
    | inl there ↦ inl ((are.1.each (p, s)).0 there)
    | inr told ↦ inr (listed_said said p s told)
  ]

  precedes_listed : (p s : OpKey) → PrecedesBeside P said p s → IsListed pairs p s
  precedes_listed p s (inl there) = subst (λ xs. Contains xs (p, s)) (sym are.2) (Contains-append_left are.0 (pairs_said said) (p, s) ((are.1.each (p, s)).1 there))
  precedes_listed p s (inr told) = subst (λ xs. Contains xs (p, s)) (sym are.2) (Contains-append_right are.0 (pairs_said said) (p, s) (said_listed said p s told))

  pub none_beside : IsAcyclicBy (IsListed pairs) → NoneReturnsBeside P said
  none_beside none a path = none a (along precedes_listed path)

  pub way_beside : (a : OpKey) (way : List OpKey) (b : OpKey) → LeadsBackTo (IsListed pairs) a way b → LeadsBackTo (PrecedesBeside P said) a way b
  way_beside a [] b e = e
  way_beside a (c ∷ way) b h = (listed_precedes c a h.0, way_beside c way b h.1)

  -- the plan's own pairs come first, and of these no path returns: so the pair with which some path does is said
  pub closing_said : IsAcyclic P.pairs → (index : BTreeMap RowKey ℕ) → IsIndex (given said) index → (place : ℕ) (way : List OpKey) → ClosesAt pairs place way → (p s : OpKey) → slice_get pairs place ≡ Some (p, s)
      → is_some (place_in index (key.Dependency p s)) ≡ true
  closing_said acyclic index is place way closes p s at = elim (cases_lt place (length are.0)) [
    | inl lt ↦
        let front : take (place + 1) pairs ≡ take (place + 1) are.0 = ap (take (place + 1)) are.2 ∙ take-append-le (place + 1) are.0 (pairs_said said) (omega (arith, lt)) in
        let own = λ (q : OpKey) (t : OpKey) (has : IsListed (take (place + 1) pairs) q t). ((are.1.each (q, t)).0 (among_first (place + 1) are.0 (q, t) (subst (λ xs. Contains xs (q, t)) front has))).0 in
        absurd (closes.4 (λ a path. acyclic a (along own path)))
    | inr le ↦
        let told = listed_said said p s (past are.0 (pairs_said said) place (p, s) (subst (λ xs. slice_get xs place ≡ Some (p, s)) are.2 at) le) in
        let there = said_given said told.0 p s told.1 in
        elim (place_in index (key.Dependency p s)) as (λ (o : Option ℕ). MatchOption o (IsNowhere (given said) (key.Dependency p s)) (IsFirst (given said) (key.Dependency p s)) → is_some o ≡ true) [
          | None ↦ λ nowhere. absurd (nowhere told.0 there)
          | Some first ↦ λ _. refl
        ] (is (key.Dependency p s))
  ]

-- the first place of a dependency's key says it
pub says_at : (said : Sayings) (index : BTreeMap RowKey ℕ) → IsIndex (given said) index → (p s : OpKey) (place : ℕ) → place_in index (key.Dependency p s) ≡ Some place → SaysAt said place (item.Dependency p s)
says_at said index is p s place e =
    given_said said place p s (subst (λ (o : Option ℕ). MatchOption o (IsNowhere (given said) (key.Dependency p s)) (IsFirst (given said) (key.Dependency p s))) e (is (key.Dependency p s))).here
