-- Moments that are collected step by step.
use Rattle.std.proofs.Common.{◌≡◌, ◌⊎◌, inl, inr, sym, ◌∙◌, ap, subst, arith, ℕ, ◌<◌, ◌+◌, ◌≤◌, List, ◌∷◌, [], ◌++◌, Contains, Some, slice_get, Less, Greater, nat_cmp}
use Rattle.std.proofs.lemmas.Bool.{cases_eq, cases_order}
use Rattle.std.proofs.lemmas.List.Elements.{Contains-append_cases, Contains-append_left, Contains-append_right}
use Rattle.plan_basics.proofs.Members.{contains_cases, contains_head, contains_none}
use Rattle.std.specs.Cmp.{IsTotalOrder, nat_cmp_is}
use Rattle.std.specs.FinMap.{FinMap, IsAntisymmetric, entries, get}
use Rattle.std.specs.declared.cmp.Ordering.{Ordering}
use Rattle.plan_records.specs.plan_drafts.proofs.RowPlaces.{place_of_found}
use Rattle.plan_model.proofs.Entries.{entries_are}
use Rattle.forecasting.specs.Adds.{Adds}

module _ (from until : ℕ) where
  pub adds_none : (is_so : ℕ → Type 0) (old : List ℕ) → ((c : ℕ) → from ≤ c → c ≤ until → ¬ is_so c) → Adds from until is_so old old
  adds_none is_so old none = record { kept = λ c has. has; within = λ c has. inl has; all = λ c low high so. absurd (none c low high so) }

  pub adds_one : (turn : ℕ) (old : List ℕ) → from ≤ turn → turn ≤ until → Adds from until (λ c. c ≡ turn) old (old ++ turn ∷ [])
  adds_one turn old low high = record {
    kept = λ c has. Contains-append_left old (turn ∷ []) c has;
    within = λ c has. elim (Contains-append_cases old (turn ∷ []) c has) [
      | inl before ↦ inl before
      | inr last ↦ elim (contains_cases turn [] c last) [
        | inl e ↦ inr (subst (λ z. from ≤ z) e low, subst (λ z. z ≤ until) e high)
        | inr none ↦ absurd (contains_none c none)
      ]
    ];
    all = λ c l h e. Contains-append_right old (turn ∷ []) c (subst (Contains (turn ∷ [])) (sym e) (contains_head turn []));
  }

  pub adds_both : (A B C : ℕ → Type 0) (xs ys zs : List ℕ) → ((c : ℕ) → from ≤ c → c ≤ until → C c → A c ⊎ B c) → Adds from until A xs ys → Adds from until B ys zs → Adds from until C xs zs
  adds_both A B C xs ys zs either a b = record {
    kept = λ c has. b.kept c (a.kept c has);
    within = λ c has. elim (b.within c has) [ inl before ↦ a.within c before | inr here ↦ inr here ];
    all = λ c low high so. elim (either c low high so) [
      | inl first ↦ b.kept c (a.all c low high first)
      | inr second ↦ b.all c low high second
    ];
  }

-- something is so of an element before an index
abbrev pub SomeBefore : {X : Type 0} → List X → (X → ℕ → Type 0) → ℕ → ℕ → Type 0
SomeBefore {X} xs Q i c = (k : ℕ) × (x : X) × (k < i) × (slice_get xs k ≡ Some x) × Q x c

module _ (from until : ℕ) {X : Type 0} (xs : List X) (Q : X → ℕ → Type 0) where
  pub adds_first : (old : List ℕ) → Adds from until (SomeBefore xs Q 0) old old
  adds_first old = adds_none from until (SomeBefore xs Q 0) old (λ c low high so. let less = so.2 in absurd (omega (arith, less)))

  pub adds_next : (i : ℕ) (old mid new : List ℕ) (B : ℕ → Type 0) → ((x : X) (c : ℕ) → slice_get xs i ≡ Some x → from ≤ c → c ≤ until → Q x c → B c) → Adds from until (SomeBefore xs Q i) old mid → Adds from until B mid new → Adds from until (SomeBefore xs Q (i + 1)) old new
  adds_next i old mid new B here a b = adds_both from until (SomeBefore xs Q i) B (SomeBefore xs Q (i + 1)) old mid new
      (λ c low high so. elim (cases_eq so.0 i) [
        | inl e ↦ inr (here so.1 c (subst (λ k. slice_get xs k ≡ Some so.1) e so.3) low high so.4)
        | inr other ↦ inl (so.0, so.1, (let less = so.2 in omega (arith, less, other)), so.3, so.4)
      ])
      a b

  pub adds_weaker : (A : ℕ → Type 0) (n : ℕ) (old new : List ℕ) → ((c : ℕ) → from ≤ c → c ≤ until → A c → SomeBefore xs Q n c) → Adds from until (SomeBefore xs Q n) old new → Adds from until A old new
  adds_weaker A n old new those a = record { kept = a.kept; within = a.within; all = λ c low high so. a.all c low high (those c low high so) }

-- where a map's value stands
pub where_found : {K X : Type 0} (R : K → K → Ordering) → IsTotalOrder R → IsAntisymmetric R → (m : FinMap R X) (k : K) (v : X) → get m k ≡ Some v → (i : ℕ) × (slice_get (entries m) i ≡ Some (k, v))
where_found R o same m k v is = place_of_found R o same (entries m) k v (ap (λ z. get z k) (entries_are R o same m) ∙ is)

pub minutes_alike : IsAntisymmetric nat_cmp
minutes_alike a b e = elim (cases_order a b) [
  | inl same ↦ same
  | inr (inl less) ↦ absurd (let f : Less ≡ nat_cmp a b = nat_cmp_is a b Less less in cc)
  | inr (inr more) ↦ absurd (let f : Greater ≡ nat_cmp a b = nat_cmp_is a b Greater more in cc)
]
