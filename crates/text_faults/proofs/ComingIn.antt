-- The occurrences that are added: where the first is said, and what is of one.
use Rattle.std.proofs.Common.{◌≡◌, ◌↔◌, inl, inr, refl, sym, subst, ◌∙◌, true≢false, arith, ℕ, ◌+◌, true, slice_get, Option, Some, None, is_some, MatchOption}
use Rattle.std.specs.BTreeMap.{BTreeMap}
use Rattle.std.proofs.lemmas.Bool.{cases_lt}
use Rattle.std.proofs.lemmas.Option.{same_Some}
use Rattle.plan_basics.specs.declared.keys.OpKey.{OpKey}
use Rattle.plan_items.specs.declared.Item.{Item}
use Rattle.plan_items.specs.declared.Item.TheVariants as item
use Rattle.plan_drafts.specs.declared.RowKey.{RowKey}
use Rattle.plan_drafts.specs.declared.RowKey.TheVariants as key
use Rattle.record_faults.specs.Sayings.{Sayings, SaysAt, given, IsFirst, IsNowhere, IsIndex, place_in}
use Rattle.text_faults.specs.AddedFaults.{IsOccurrence, SaysOccurrence, NoneBelow, IsFirstOccurrence, IsOwn}

-- one place more
pub none_more : (said : Sayings) (n : ℕ) (o : Option Item) → slice_get said n ≡ Some o → ¬ IsOccurrence o → NoneBelow said n → NoneBelow said (n + 1)
none_more said n o here none before i lt there = elim (cases_lt i n) [
  | inl less ↦ before i less there
  | inr le ↦
      let same : i ≡ n = omega (arith, le, lt) in
      let at : SaysOccurrence said n = subst (SaysOccurrence said) same there in
      none (at.0, at.1, at.2, same_Some o (Some (item.Occurrence at.0 at.1 at.2)) (sym here ∙ at.3))
]

-- there is one first at most
pub one_first : (said : Sayings) (i j : ℕ) → IsFirstOccurrence said i → IsFirstOccurrence said j → i ≡ j
one_first said i j a b = elim (cases_lt i j) [
  | inl less ↦ absurd (b.1 i less a.0)
  | inr le ↦ elim (cases_lt j i) [
    | inl less ↦ absurd (a.1 j less b.0)
    | inr other ↦ omega (arith, le, other)
  ]
]

-- an operation is of an occurrence that is added exactly where the map has a place for that one
pub own_told : (said : Sayings) (index : BTreeMap RowKey ℕ) → IsIndex (given said) index → (o : OpKey) → (is_some (place_in index (key.Occurrence o.occurrence)) ≡ true) ↔ IsOwn said o
own_told said index is o = elim (place_in index (key.Occurrence o.occurrence)) as
    (λ (p : Option ℕ). MatchOption p (IsNowhere (given said) (key.Occurrence o.occurrence)) (IsFirst (given said) (key.Occurrence o.occurrence)) → (is_some p ≡ true) ↔ IsOwn said o) [
      | None ↦ λ never. (λ e. absurd (true≢false (sym e)), λ own. absurd (never own.0 own.1))
      | Some first ↦ λ at. (λ e. (first, at.here), λ own. refl)
    ] (is (key.Occurrence o.occurrence))

-- a record says one thing
pub says_one : (said : Sayings) (place : ℕ) (x y : Item) → SaysAt said place x → SaysAt said place y → x ≡ y
says_one said place x y e f = same_Some x y (same_Some (Some x) (Some y) (sym e ∙ f))

-- a record that says an occurrence says nothing else
pub only_occurrence : (said : Sayings) (place : ℕ) (x : Item) → SaysAt said place x → (h : SaysOccurrence said place) → x ≡ item.Occurrence h.0 h.1 h.2
only_occurrence said place x e h = says_one said place x (item.Occurrence h.0 h.1 h.2) e h.3
