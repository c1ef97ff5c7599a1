-- What waits for fewer predecessors follows one that has come to be satisfied.
use Rattle.std.proofs.Common.{◌≡◌, ◌⊎◌, inl, inr, sym, subst, arith, ℕ, ◌<◌, List, [], ◌∷◌, length, Contains}
use Rattle.std.specs.List.Sorted.{IsStrictlySortedBy}
use Rattle.std.proofs.lemmas.Map.Keys.{IsDistinct-from_sorted}
use Rattle.plan_basics.specs.Keys.{operation_cmp, operation_cmp-IsAntisymmetric, operation_cmp_total}
use Rattle.plan_basics.specs.declared.keys.OpKey.{OpKey}
use Rattle.operation_graph.proofs.Telling.{told_contains, told_equal}
use Rattle.plan_drafts.proofs.Lists.{contains_cases, contains_head, contains_later, contains_none}
use Rattle.plan_model.specs.Contents.{Contents, IsLive, IsPairOf, Precedes}
use Rattle.plan_model.specs.Status.{IsSatisfied}
use Rattle.plan_model.specs.Valid.{IsValid}
use Rattle.plan_records.specs.Rows.{IsWaitingFor}
use Rattle.plan_checks.specs.plan_laws.proofs.Standing.{satisfied_is_told}
use Rattle.small_requests.proofs.FewLooks.{length_within}

-- whether all of a list is in another, or what of it isn't
all_or_some : (xs ys : List OpKey) → ((k : OpKey) → Contains xs k → Contains ys k) ⊎ ((k : OpKey) × Contains xs k × ¬ Contains ys k)
all_or_some [] ys = inl (λ k has. absurd (contains_none k has))
all_or_some (x ∷ xs) ys = elim (told_contains (told_equal operation_cmp_total operation_cmp-IsAntisymmetric) ys x) [
  | inr out ↦ inr (x, contains_head x xs, out)
  | inl has ↦ elim (all_or_some xs ys) [
    | inl all ↦ inl (λ k h. elim (contains_cases x xs k h) [ inl e ↦ subst (Contains ys) e has | inr later ↦ all k later ])
    | inr some ↦ inr (some.0, contains_later x xs some.0 some.1, some.2)
  ]
]

-- a longer list without repeats has something that a shorter one hasn't
longer_has_more : (xs ys : List OpKey) → IsStrictlySortedBy operation_cmp xs → length ys < length xs → (k : OpKey) × Contains xs k × ¬ Contains ys k
longer_has_more xs ys up less = elim (all_or_some xs ys) [
  | inl all ↦ absurd (omega (arith, less, length_within xs ys (IsDistinct-from_sorted operation_cmp xs up) all))
  | inr some ↦ some
]

-- p precedes o, and comes to be satisfied
abbrev pub IsNewlySatisfied : Contents → Contents → OpKey → OpKey → Type 0
IsNewlySatisfied P Q p o = Precedes P p o × ¬ IsSatisfied P p × IsSatisfied Q p

module _ (P Q : Contents) (valid : IsValid Q) (pairs : Q.pairs ≡ P.pairs) (stay_live : (p : OpKey) → IsLive P p → IsLive Q p) where
  pub waits_for_fewer : (o : OpKey) (m n : ℕ) → IsWaitingFor P o m → IsWaitingFor Q o n → n < m → (p : OpKey) × IsNewlySatisfied P Q p o
  waits_for_fewer o m n was is less =
      let gone = longer_has_more was.0 is.0 was.1 (omega (arith, less, was.3, is.3)) in
      let old = (was.2 gone.0).0 gone.1 in
      elim (satisfied_is_told Q valid gone.0) [
        | inl now ↦ (gone.0, (old.0.0, old.1, now))
        | inr never ↦ absurd (gone.2 ((is.2 gone.0).1 ((subst (λ (z : _). IsPairOf z gone.0 o) (sym pairs) old.0.0, stay_live gone.0 old.0.1), never)))
      ]
