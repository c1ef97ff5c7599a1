-- Pairs as they are added one after another.
use Rattle.std.proofs.Common.{◌≡◌, ◌⊎◌, inl, inr, sym, ap, ◌∙◌, true≢false, ℕ, zero, suc, ◌||◌, List, [], ◌∷◌, ◌++◌, drop}
use Rattle.std.proofs.lemmas.Bool.{or_cases, or_right}
use Rattle.std.specs.Cmp.{Equal-is, eq_by_cmp_equiv}
use Rattle.std.specs.FinSet.{contains, contains-empty, contains-insert, from_list, from_list_push}
use Rattle.std.specs.List.Sorted.{IsStrictlySortedBy}
use Rattle.std.specs.Ordering.{eq_by_cmp}
use Rattle.std.specs.declared.cmp.Ordering.{Ordering}
use Rattle.plan_basics.specs.declared.keys.OpKey.{OpKey}
use Rattle.plan_model.specs.Contents.{IsPairOf, pair_cmp}
pub use Rattle.plan_drafts.proofs.KeyPlaces.{pair_cmp_total, pair_cmp-IsAntisymmetric}

abbrev Pair : Type 0
Pair = OpKey × OpKey

-- a pair of one more is that one, or one of the others
pub pair_cases : (x : Pair) (rest : List Pair) (a b : OpKey) → IsPairOf (from_list (x ∷ rest)) a b → IsPairOf (from_list rest) a b ⊎ ((a ≡ x.0) × (b ≡ x.1))
pair_cases x rest a b h = elim (or_cases (eq_by_cmp pair_cmp (a, b) x) (contains {R = pair_cmp} (from_list rest) (a, b)) (sym (contains-insert pair_cmp_total (from_list rest) x (a, b)) ∙ h)) [
  | inl is ↦ let e : ◌≡◌ {A = Pair} (a, b) x = pair_cmp-IsAntisymmetric (a, b) x ((Equal-is (pair_cmp (a, b) x)).0 is) in inr (ap (λ (z : Pair). z.0) e, ap (λ (z : Pair). z.1) e)
  | inr old ↦ inl old
]

pub pair_kept : (x : Pair) (rest : List Pair) (a b : OpKey) → IsPairOf (from_list rest) a b → IsPairOf (from_list (x ∷ rest)) a b
pair_kept x rest a b h = contains-insert pair_cmp_total (from_list rest) x (a, b) ∙ or_right (eq_by_cmp pair_cmp (a, b) x) _ h

pub pair_added : (x : Pair) (rest : List Pair) → IsPairOf (from_list (x ∷ rest)) x.0 x.1
pair_added x rest = contains-insert pair_cmp_total (from_list rest) x x ∙ ap (λ b. b || contains {R = pair_cmp} (from_list rest) x) ((eq_by_cmp_equiv pair_cmp_total).refl x)

pub no_pair : (a b : OpKey) → IsPairOf (from_list []) a b → ⊥
no_pair a b h = true≢false (sym h ∙ contains-empty pair_cmp (a, b))

pub sorted_dropped : {K : Type 0} (R : K → K → Ordering) (i : ℕ) (xs : List K) → IsStrictlySortedBy R xs → IsStrictlySortedBy R (drop i xs)
unfolding IsStrictlySortedBy
sorted_dropped R zero xs h = h
sorted_dropped R (suc i) [] h = h
sorted_dropped R (suc i) (x ∷ xs) h = sorted_dropped R i xs h.1

-- to push a pair is to put it in
pub pair_pushed : (pairs : List Pair) (x : Pair) → from_list {R = pair_cmp} (pairs ++ x ∷ []) ≡ from_list (x ∷ pairs)
pair_pushed pairs x = from_list_push pair_cmp_total pair_cmp-IsAntisymmetric pairs x
