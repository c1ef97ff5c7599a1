-- What is so of each entry of a map, as one row after another is gone through.
use Rattle.std.proofs.Common.{◌≡◌, sym, ap, ◌∙◌, subst, arith, inl, inr, ℕ, ◌+◌, ◌<◌, ◌≤◌, List, length, slice_get, Some, Ordering}
use Rattle.std.specs.Cmp.{IsTotalOrder}
use Rattle.std.specs.FinMap.{FinMap, IsAntisymmetric, entries, get}
use Rattle.std.proofs.lemmas.Bool.{cases_lt}
use Rattle.std.proofs.lemmas.Option.{same_Some, slice_get_within}
use Rattle.plan_drafts.proofs.EntryRows.{entry_of}

-- it is so of each of the first rows
abbrev pub IsSoBefore : {K V : Type 0} → List (K × V) → (K → V → Type 0) → ℕ → Type 0
IsSoBefore {K} {V} rows Q i = (k : ℕ) (q : K) (v : V) → k < i → slice_get rows k ≡ Some (q, v) → Q q v

module _ {K V : Type 0} (Q : K → V → Type 0) where
  pub so_of_none : (rows : List (K × V)) → IsSoBefore rows Q 0
  so_of_none rows k q v less at = absurd (omega (arith, less))

  pub so_of_one_more : (rows : List (K × V)) (i : ℕ) (q : K) (v : V) → slice_get rows i ≡ Some (q, v) → IsSoBefore rows Q i → Q q v → IsSoBefore rows Q (i + 1)
  so_of_one_more rows i q v row before this k p x less at = elim (cases_lt k i) [
    | inl earlier ↦ before k p x earlier at
    | inr later ↦
        let here : k ≡ i = omega (arith, later, less) in
        let same : ◌≡◌ {A = K × V} (q, v) (p, x) = same_Some (q, v) (p, x) (sym row ∙ ap (slice_get rows) (sym here) ∙ at) in
        subst (λ (z : K × V). Q z.0 z.1) same this
  ]

  pub so_of_all : {R : K → K → Ordering} → IsTotalOrder R → IsAntisymmetric R → (m : FinMap R V) (i : ℕ) → length (entries m) ≤ i → IsSoBefore (entries m) Q i → (q : K) (v : V) → get m q ≡ Some v → Q q v
  so_of_all total exact m i past before q v is =
      let row = entry_of total exact m q v is in
      let within = slice_get_within (entries m) row.0 (q, v) row.1 in
      before row.0 q v (omega (arith, past, within)) row.1
