-- Where a search among operations in key order finds those of an occurrence.
use Rattle.std.proofs.Common.{◌≡◌, inl, inr, refl, sym, ◌∙◌, ap, subst, arith, true≢false, ℕ, Bool, true, false, List, [], ◌∷◌, Ordering, Less, Equal, Greater}
use Rattle.std.specs.Ordering.{is_le, is_lt, nat_cmp, ordering_then}
use Rattle.std.specs.List.{AllByRecursion}
use Rattle.std.specs.List.Sorted.{IsPartitionPoint, IsPartitionedBy, IsStrictlySortedBy}
use Rattle.std.specs.Map.{keys_of}
use Rattle.std.proofs.lemmas.Bool.{cases_lt}
use Rattle.std.proofs.lemmas.Cmp.{alike_right}
use Rattle.std.proofs.lemmas.Option.{get_or_from_slice_get, slice_get_within}
use Rattle.plan_basics.proofs.Members.{less_told}
use Rattle.plan_basics.specs.Keys.{occurrence_cmp, occurrence_cmp_total, operation_cmp}
use Rattle.plan_basics.specs.declared.keys.OccKey.{OccKey}
use Rattle.plan_basics.specs.declared.keys.OpKey.{OpKey}
use Rattle.plan_model.specs.Contents.{Operation}
use Rattle.plan_model.specs.ready_list.proofs.Ordered.{partitioned_by}
use Rattle.plan_outlooks.specs.Spans.{AreBefore, AreThrough}

abbrev Row : Type 0
Row = OpKey × Operation

-- whether a row is of an occurrence before c; and of c or one before it
abbrev pub is_before : OccKey → Row → Bool
is_before c row = is_lt (occurrence_cmp row.0.occurrence c)

abbrev pub is_through : OccKey → Row → Bool
is_through c row = is_le (occurrence_cmp row.0.occurrence c)

abbrev row_cmp : Row → Row → Ordering
row_cmp a b = operation_cmp a.0 b.0

rows_later : (x : Row) (xs : List Row) → AllByRecursion (λ k. operation_cmp x.0 k ≡ Less) (keys_of xs) → AllByRecursion (λ y. row_cmp x y ≡ Less) xs
rows_later x [] h = tt
rows_later x (y ∷ ys) h = (h.0, rows_later x ys h.1)

rows_sorted : (xs : List Row) → IsStrictlySortedBy operation_cmp (keys_of xs) → IsStrictlySortedBy row_cmp xs
unfolding IsStrictlySortedBy
rows_sorted [] h = tt
rows_sorted (x ∷ xs) h = (rows_later x xs h.0, rows_sorted xs h.1)

module _ (c : OccKey) (a b : Row) (less : row_cmp a b ≡ Less) where
  abbrev between : Ordering
  between = occurrence_cmp a.0.occurrence b.0.occurrence

  before_down : is_before c b ≡ true → is_before c a ≡ true
  before_down e = elim between as (λ r. between ≡ r → is_before c a ≡ true) [
    | Less ↦ λ at. ap is_lt (occurrence_cmp_total.trans a.0.occurrence b.0.occurrence c at (less_told (occurrence_cmp b.0.occurrence c) e))
    | Equal ↦ λ at. ap is_lt (occurrence_cmp_total.congr a.0.occurrence b.0.occurrence c at) ∙ e
    | Greater ↦ λ at. (let h = sym (ap (λ r. ordering_then r (nat_cmp a.0.number b.0.number)) at) ∙ less in cc)
  ] refl

  through_less : between ≡ Less → (r : Ordering) → occurrence_cmp b.0.occurrence c ≡ r → is_le r ≡ true → is_through c a ≡ true
  through_less at Less is e = ap is_le (occurrence_cmp_total.trans a.0.occurrence b.0.occurrence c at is)
  through_less at Equal is e = ap is_le (sym (alike_right occurrence_cmp_total b.0.occurrence c a.0.occurrence is) ∙ at)
  through_less at Greater is e = cc

  through_down : is_through c b ≡ true → is_through c a ≡ true
  through_down e = elim between as (λ r. between ≡ r → is_through c a ≡ true) [
    | Less ↦ λ at. through_less at (occurrence_cmp b.0.occurrence c) refl e
    | Equal ↦ λ at. ap is_le (occurrence_cmp_total.congr a.0.occurrence b.0.occurrence c at) ∙ e
    | Greater ↦ λ at. (let h = sym (ap (λ r. ordering_then r (nat_cmp a.0.number b.0.number)) at) ∙ less in cc)
  ] refl

module _ (c : OccKey) (xs : List Row) (up : IsStrictlySortedBy operation_cmp (keys_of xs)) where
  pub before_parted : IsPartitionedBy (is_before c) xs
  before_parted = partitioned_by row_cmp (is_before c) xs (rows_sorted xs up) (λ a b less e. before_down c a b less e)

  pub through_parted : IsPartitionedBy (is_through c) xs
  through_parted = partitioned_by row_cmp (is_through c) xs (rows_sorted xs up) (λ a b less e. through_down c a b less e)

-- what a test tells
lt_less : (r : Ordering) → r ≡ Less → is_lt r ≡ true
lt_less r e = ap is_lt e

le_not : (r : Ordering) → is_le r ≡ true → r ≡ Greater → ⊥
le_not Less e greater = cc
le_not Equal e greater = cc
le_not Greater e greater = cc

not_le : (r : Ordering) → (r ≡ Greater → ⊥) → is_le r ≡ true
not_le Less h = refl
not_le Equal h = refl
not_le Greater h = absurd (h refl)

module _ (c : OccKey) (xs : List Row) (n : ℕ) where
  pub are_before : IsPartitionPoint (λ row. is_before c row ≡ true) (λ row. is_before c row ≡ false) xs n → AreBefore xs c n
  are_before point i o op at =
      let here = λ (d : Row). get_or_from_slice_get xs i (o, op) d at in (
        (λ lt. less_told (occurrence_cmp o.occurrence c) (subst (λ (z : Row). is_before c z ≡ true) (here (o, op)) (point.0 i (o, op) (omega arith) lt))),
        (λ less. elim (cases_lt i n) [
          | inl lt ↦ lt
          | inr ge ↦ absurd (true≢false (sym (lt_less (occurrence_cmp o.occurrence c) less) ∙ subst (λ (z : Row). is_before c z ≡ false) (here (o, op)) (point.1 i (o, op) ge (slice_get_within xs i (o, op) at))))
        ]),
      )

  pub are_through : IsPartitionPoint (λ row. is_through c row ≡ true) (λ row. is_through c row ≡ false) xs n → AreThrough xs c n
  are_through point i o op at =
      let here = λ (d : Row). get_or_from_slice_get xs i (o, op) d at in (
        (λ lt. le_not (occurrence_cmp o.occurrence c) (subst (λ (z : Row). is_through c z ≡ true) (here (o, op)) (point.0 i (o, op) (omega arith) lt))),
        (λ up. elim (cases_lt i n) [
          | inl lt ↦ lt
          | inr ge ↦ absurd (true≢false (sym (not_le (occurrence_cmp o.occurrence c) up) ∙ subst (λ (z : Row). is_through c z ≡ false) (here (o, op)) (point.1 i (o, op) ge (slice_get_within xs i (o, op) at))))
        ]),
      )
