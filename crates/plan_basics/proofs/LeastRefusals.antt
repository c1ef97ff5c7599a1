-- Where the lines before a refusal's number hold, those from it on are as good as all.
use Rattle.std.proofs.Common.{inl, inr, ◌<◌}
use Rattle.std.proofs.lemmas.Bool.{cases_lt}
use Rattle.plan_basics.specs.Refusals.{number_of, IsLeastRefusal, NoneRefuses, from_on}
use Rattle.plan_basics.specs.declared.Refusal.{Refusal}

module _ (first : Refusal) (lines : Refusal → Type 0) (before : (lower : Refusal) → number_of lower < number_of first → lines lower) where
  -- none of all refuses
  pub none_of_all : NoneRefuses (from_on first lines) → NoneRefuses lines
  none_of_all none r = elim (cases_lt (number_of r) (number_of first)) [
    | inl less ↦ before r less
    | inr counts ↦ none r counts
  ]

  -- the least of them is the least of all
  pub least_of_all : (r : Refusal) → IsLeastRefusal (from_on first lines) r → IsLeastRefusal lines r
  least_of_all r least = (
    λ may. least.0 (λ _. may),
    λ lower less. elim (cases_lt (number_of lower) (number_of first)) [
      | inl early ↦ before lower early
      | inr counts ↦ least.1 lower less counts
    ],
  )
