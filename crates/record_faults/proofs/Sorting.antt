-- Rows of which no two have one key can be put in order of their keys.
use Rattle.std.proofs.Common.{◌≡◌, ◌≢◌, inl, inr, refl, ap, subst, ◌∙◌, List, [], ◌∷◌, map, Contains}
use Rattle.std.specs.List.{AllByRecursion}
use Rattle.std.specs.List.Sorted.{IsPermutation, IsStrictlySortedBy}
use Rattle.std.specs.declared.cmp.Ordering.{Ordering}
use Rattle.std.specs.declared.cmp.Ordering.TheVariants.{Less, Equal, Greater}
use Rattle.std.specs.Ordering.{ordering_reverse}
use Rattle.std.specs.Cmp.{IsTotalOrder}
use Rattle.std.specs.FinMap.{IsAntisymmetric}
use Rattle.std.proofs.lemmas.List.Elements.{All-contains}
use Rattle.std.proofs.lemmas.List.Sorted.{IsPermutation-refl, IsPermutation-sym, IsPermutation-trans, IsPermutation-cons, Contains-permutation, IsPermutation-insert}
use Rattle.plan_basics.proofs.Members.{contains_head, contains_later, contains_cases, contains_none}
use Rattle.plan_drafts.proofs.Lists.{Differ}

-- the first two change places
front_changed : {X : Type 0} (a b : X) (xs : List X) → IsPermutation (a ∷ b ∷ xs) (b ∷ a ∷ xs)
front_changed a b xs = IsPermutation-insert (b ∷ xs) 1 a

module _ {X K : Type 0} {R : K → K → Ordering} (total : IsTotalOrder R) (exact : IsAntisymmetric R) (key : X → K) where
  abbrev Below : X → List X → Type 0
  Below x ys = AllByRecursion (λ k. R (key x) k ≡ Less) (map key ys)

  abbrev Ascend : List X → Type 0
  Ascend ys = IsStrictlySortedBy R (map key ys)

  below_members : (x : X) (ys : List X) → ((y : X) → Contains ys y → R (key x) (key y) ≡ Less) → Below x ys
  below_members x [] each = tt
  below_members x (y ∷ ys) each = (each y (contains_head y ys), below_members x ys (λ z has. each z (contains_later y ys z has)))

  members_below : (x : X) (ys : List X) → Below x ys → (y : X) → Contains ys y → R (key x) (key y) ≡ Less
  members_below x [] all y has = absurd (contains_none y has)
  members_below x (z ∷ ys) all y has = elim (contains_cases z ys y has) [ inl same ↦ subst (λ w. R (key x) (key w) ≡ Less) same all.0 | inr later ↦ members_below x ys all.1 y later ]

  abbrev Placed : X → List X → Type 0
  Placed x ys = (zs : List X) × IsPermutation (x ∷ ys) zs × Ascend zs

  -- a row with a new key has its place among rows in order
  placed : (x : X) (ys : List X) → ((y : X) → Contains ys y → key x ≢ key y) → Ascend ys → Placed x ys
  unfolding IsStrictlySortedBy
  placed x [] other up = (x ∷ [], IsPermutation-refl (x ∷ []), (tt, tt))
  placed x (y ∷ ys) other up = elim (R (key x) (key y)) as (λ o. R (key x) (key y) ≡ o → Placed x (y ∷ ys)) [
    | Less ↦ λ e. (
      x ∷ y ∷ ys,
      IsPermutation-refl (x ∷ y ∷ ys),
      (below_members x (y ∷ ys) (λ z has. elim (contains_cases y ys z has) [ inl same ↦ subst (λ w. R (key x) (key w) ≡ Less) same e | inr later ↦ total.trans (key x) (key y) (key z) e (members_below y ys up.0 z later) ]), up),
    )
    | Equal ↦ λ e. absurd (other y (contains_head y ys) (exact (key x) (key y) e))
    | Greater ↦ λ e.
        let rest = placed x ys (λ z has. other z (contains_later y ys z has)) up.1 in
        let less : R (key y) (key x) ≡ Less = total.antisymm (key y) (key x) ∙ ap ordering_reverse e in (
          y ∷ rest.0,
          IsPermutation-trans (x ∷ y ∷ ys) (y ∷ x ∷ ys) (y ∷ rest.0) (front_changed x y ys) (IsPermutation-cons y (x ∷ ys) rest.0 rest.1),
          (below_members y rest.0 (λ z has. elim (contains_cases x ys z (Contains-permutation rest.0 (x ∷ ys) z (IsPermutation-sym (x ∷ ys) rest.0 rest.1) has)) [ inl same ↦ subst (λ w. R (key y) (key w) ≡ Less) same less | inr later ↦ members_below y ys up.0 z later ]), rest.2),
        )
  ] refl

  pub in_order : (xs : List X) → Differ (λ a b. key a ≢ key b) xs → (ys : List X) × IsPermutation xs ys × IsStrictlySortedBy R (map key ys)
  unfolding IsStrictlySortedBy
  in_order [] apart = ([], IsPermutation-refl [], tt)
  in_order (x ∷ xs) apart =
      let rest = in_order xs apart.1 in
      let one = placed x rest.0 (λ y has. All-contains (λ b. key x ≢ key b) xs y apart.0 (Contains-permutation rest.0 xs y (IsPermutation-sym xs rest.0 rest.1) has)) rest.2 in
      (one.0, IsPermutation-trans (x ∷ xs) (x ∷ rest.0) one.0 (IsPermutation-cons x xs rest.0 rest.1) one.1, one.2)
