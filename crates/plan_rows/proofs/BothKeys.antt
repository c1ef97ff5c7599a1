-- What is kept within the rows of a table, each under the row's key and its own.
use Rattle.std.proofs.Common.{◌≡◌, inl, inr, refl, sym, subst, ap, ◌∙◌, arith, suc, List, [], ◌∷◌, map, Contains, Ordering, Less}
use Rattle.std.specs.Cmp.{IsTotalOrder}
use Rattle.std.specs.List.{flat_map}
use Rattle.std.specs.List.Sorted.{IsStrictlySortedBy}
use Rattle.std.specs.Map.{keys_of}
use Rattle.std.specs.Ordering.{ordering_then}
use Rattle.std.proofs.lemmas.Cmp.{tied_itself}
use Rattle.std.proofs.lemmas.List.Elements.{Contains-append_left, Contains-append_right, Contains-append_cases}
use Rattle.std.proofs.lemmas.Map.Keys.{sorted_tail}
use Rattle.plan_basics.proofs.Members.{contains_cases, contains_head, contains_later, contains_mapped, contains_none, mapped_contains, place_of}
use Rattle.plan_rows.proofs.NoRows.{none_ascend}
use Rattle.plan_rows.specs.Rows.{under_both}
use Rattle.row_differences.proofs.Joined.{joined_ascend, map_joined}
use Rattle.row_differences.proofs.Merging.{lower}
use Rattle.row_differences.proofs.Picked.{names_ascend}

module _ {K V L X : Type 0} (within : V → List (L × X)) where
  abbrev all : List (K × V) → List ((K × L) × X)
  all = flat_map (under_both within)

  -- each is kept within one
  pub from_one : (zs : List (K × V)) (y : (K × L) × X) → Contains (all zs) y → (z : K × V) × Contains zs z × (x : L × X) × Contains (within z.1) x × (((z.0, x.0), x.1) ≡ y)
  from_one [] y has = absurd (contains_none y has)
  from_one (z ∷ zs) y has = elim (Contains-append_cases (under_both within z) (all zs) y has) [
    | inl h ↦ let x = mapped_contains (λ (x : L × X). ((z.0, x.0), x.1)) (within z.1) y h in (z, contains_head z zs, x.0, x.2, x.1)
    | inr h ↦ let r = from_one zs y h in (r.0, contains_later z zs r.0 r.1, r.2, r.3, r.4)
  ]

  -- and all that is kept within one is there
  pub in_all : (zs : List (K × V)) (z : K × V) (x : L × X) → Contains zs z → Contains (within z.1) x → Contains (all zs) ((z.0, x.0), x.1)
  in_all [] z x has there = absurd (contains_none z has)
  in_all (w ∷ zs) z x has there = elim (contains_cases w zs z has) [
    | inl same ↦
        let here = contains_mapped (λ (y : L × X). ((z.0, y.0), y.1)) (within z.1) x there in
        Contains-append_left (under_both within w) (all zs) ((z.0, x.0), x.1) (subst (λ v. Contains (under_both within v) ((z.0, x.0), x.1)) (sym same) here)
    | inr later ↦ Contains-append_right (under_both within w) (all zs) ((z.0, x.0), x.1) (in_all zs z x later there)
  ]

  module _ (R : K → K → Ordering) (S : L → L → Ordering) (o : IsTotalOrder R) (inner : (v : V) → IsStrictlySortedBy S (keys_of (within v))) where
    abbrev T : K × L → K × L → Ordering
    T x y = ordering_then (R x.0 y.0) (S x.1 y.1)

    keys_under : (k : K) (xs : List (L × X)) → keys_of {K = K × L} {X = X} (map (λ (x : L × X). ((k, x.0), x.1)) xs) ≡ map (λ l. (k, l)) (keys_of xs)
    keys_under k [] = refl
    keys_under k (x ∷ xs) = λ i. (k, x.0) ∷ keys_under k xs i

    one_ascends : (z : K × V) → IsStrictlySortedBy T (keys_of (under_both within z))
    one_ascends z =
        subst (IsStrictlySortedBy T) (sym (keys_under z.0 (within z.1)))
        (names_ascend S T (λ l. (z.0, l)) (λ a b. ap (λ t. ordering_then t (S a b)) (tied_itself o z.0)) (keys_of (within z.1)) (inner z.1))

    earlier : (z : K × V) (zs : List (K × V)) → IsStrictlySortedBy R (keys_of (z ∷ zs)) → (k l : K × L) → Contains (keys_of (under_both within z)) k → Contains (keys_of (all zs)) l → T k l ≡ Less
    earlier z zs up k l has there =
        let p = mapped_contains (λ (y : (K × L) × X). y.0) (under_both within z) k has in
        let x = mapped_contains (λ (x : L × X). ((z.0, x.0), x.1)) (within z.1) p.0 p.2 in
        let q = mapped_contains (λ (y : (K × L) × X). y.0) (all zs) l there in
        let w = from_one zs q.0 q.2 in
        let at = place_of (keys_of zs) w.0.0 (contains_mapped (λ (v : K × V). v.0) zs w.0 w.1) in
        let less : R z.0 w.0.0 ≡ Less = lower R (keys_of (z ∷ zs)) 0 (suc at.0) z.0 w.0.0 up (omega arith) refl at.1 in
        let of_first : z.0 ≡ k.0 = ap (λ (y : (K × L) × X). y.0.0) x.1 ∙ ap (λ (y : K × L). y.0) p.1 in
        let of_later : w.0.0 ≡ l.0 = ap (λ (y : (K × L) × X). y.0.0) w.4 ∙ ap (λ (y : K × L). y.0) q.1 in
        ap (λ t. ordering_then t (S k.1 l.1)) (subst (λ a. R a l.0 ≡ Less) of_first (subst (λ b. R z.0 b ≡ Less) of_later less))

    -- they are in order of both keys
    pub all_ascend : (zs : List (K × V)) → IsStrictlySortedBy R (keys_of zs) → IsStrictlySortedBy T (keys_of (all zs))
    all_ascend [] up = none_ascend T
    all_ascend (z ∷ zs) up =
        subst (IsStrictlySortedBy T) (sym (map_joined (λ (y : (K × L) × X). y.0) (under_both within z) (all zs)))
        (joined_ascend T (keys_of (under_both within z)) (keys_of (all zs)) (one_ascends z) (all_ascend zs (sorted_tail R z.0 (keys_of zs) up)) (earlier z zs up))

-- entries that are made of the elements of a list, under both keys
pub under_made : {K L X Y : Type 0} (k : K) (key : Y → L) (value : Y → X) (ys : List Y) → map {B = (K × L) × X} (λ y. ((k, key y), value y)) ys ≡ map (λ (x : L × X). ((k, x.0), x.1)) (map {B = L × X} (λ y. (key y, value y)) ys)
under_made k key value [] = refl
under_made k key value (y ∷ ys) = λ i. ((k, key y), value y) ∷ under_made k key value ys i

pub keys_made : {L X Y : Type 0} (key : Y → L) (value : Y → X) (ys : List Y) → keys_of {K = L} {X = X} (map {B = L × X} (λ y. (key y, value y)) ys) ≡ map key ys
keys_made key value [] = refl
keys_made key value (y ∷ ys) = λ i. key y ∷ keys_made key value ys i
