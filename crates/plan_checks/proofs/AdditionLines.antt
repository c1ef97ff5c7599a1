-- The lines of an addition, one after another.
use Rattle.std.proofs.Common.{◌≡◌, ◌⊎◌, inl, inr, refl, sym, arith, ℕ, ◌<◌, ◌≤◌, Bool, true, false, not, true≢false, Decides, Result, IfErr, OnOk}
use Rattle.std.proofs.Math.Dec.{ltb}
use Rattle.std.proofs.lemmas.Bool.{ltb-false}
use Rattle.plan_basics.proofs.LeastRefusals.{least_of_all, none_of_all}
use Rattle.plan_basics.specs.Refusals.{number_of, IsLeastRefusal, NoneRefuses, from_on}
use Rattle.plan_basics.specs.declared.Refusal.{Refusal}
use Rattle.plan_basics.specs.declared.Refusal.TheVariants as refusal
use Rattle.plan_model.specs.Contents.{Contents, AddedParts}
use Rattle.plan_records.specs.Acceptance.{MayBeAdded}
use Rattle.plan_checks.proofs.Searching.{if_err, if_ok}

-- why an addition may not be made
abbrev pub IsBarredAddition : Contents → AddedParts → Refusal → Type 0
IsBarredAddition c s r = (r ≡ refusal.Memory) ⊎ (IsLeastRefusal (MayBeAdded c s) r)

-- what is decided not to be so isn't
refuted : {A : Type 0} → Decides false A → ¬ A
refuted told a = true≢false (sym (told.1 a))

-- what a test showed is told by it
pub told_on : {A : Type 0} (b : Bool) → not b ≡ false → Decides b A → Decides true A
told_on true e told = told
told_on false e told = absurd (true≢false e)

pub told_off : {A : Type 0} (b : Bool) → not b ≡ true → Decides b A → Decides false A
told_off true e told = absurd (true≢false (sym e))
told_off false e told = told

-- the refusals of lower numbers
abbrev pub Below : Refusal → Refusal → Type 0
Below r lower = number_of lower < number_of r

-- of a number that isn't below another nothing is asked
pub past : {A : Type 0} {m n : ℕ} → ltb m n ≡ false → m < n → A
past {A} {m} {n} e less = let least = ltb-false m n e in absurd (omega (arith, less, least))

module _ (c : Contents) (s : AddedParts) where
  abbrev line : Refusal → Type 0
  line = MayBeAdded c s

  -- what is so of the lines that ask something is so of all
  line_by_line : (Q : Refusal → Type 0)
      → (Q refusal.UnknownOperation → line refusal.UnknownOperation)
      → (Q refusal.UnknownWorkstation → line refusal.UnknownWorkstation)
      → (Q refusal.UnknownResource → line refusal.UnknownResource)
      → (Q refusal.WrongStatus → line refusal.WrongStatus)
      → (Q refusal.Duplicate → line refusal.Duplicate)
      → (Q refusal.Cycle → line refusal.Cycle)
      → (Q refusal.Limit → line refusal.Limit)
      → (r : Refusal) → Q r → line r
  line_by_line Q ends workstations resources statuses new acyclic few refusal.UnknownOperation q = ends q
  line_by_line Q ends workstations resources statuses new acyclic few refusal.UnknownWorkstation q = workstations q
  line_by_line Q ends workstations resources statuses new acyclic few refusal.UnknownResource q = resources q
  line_by_line Q ends workstations resources statuses new acyclic few refusal.WrongStatus q = statuses q
  line_by_line Q ends workstations resources statuses new acyclic few refusal.Duplicate q = new q
  line_by_line Q ends workstations resources statuses new acyclic few refusal.Cycle q = acyclic q
  line_by_line Q ends workstations resources statuses new acyclic few refusal.Limit q = few q
  line_by_line Q ends workstations resources statuses new acyclic few r q = tt

  -- ---- the plan that it makes: no path returns, and then it holds no more than it may

  pub none_by_growth : line refusal.Cycle → line refusal.Limit → NoneRefuses (from_on refusal.Cycle line)
  none_by_growth acyclic few refusal.UnknownOperation counts = absurd (omega (arith, counts))
  none_by_growth acyclic few refusal.UnknownWorkstation counts = absurd (omega (arith, counts))
  none_by_growth acyclic few refusal.UnknownResource counts = absurd (omega (arith, counts))
  none_by_growth acyclic few refusal.WrongStatus counts = absurd (omega (arith, counts))
  none_by_growth acyclic few refusal.Duplicate counts = absurd (omega (arith, counts))
  none_by_growth acyclic few refusal.Cycle counts = acyclic
  none_by_growth acyclic few refusal.Limit counts = few
  none_by_growth acyclic few r counts = tt

  pub returning_by_growth : ¬ line refusal.Cycle → IsLeastRefusal (from_on refusal.Cycle line) refusal.Cycle
  returning_by_growth never = (λ acyclic. never (acyclic (omega arith)), λ lower less counts. absurd (omega (arith, less, counts)))

  pub full_by_growth : line refusal.Cycle → ¬ line refusal.Limit → IsLeastRefusal (from_on refusal.Cycle line) refusal.Limit
  full_by_growth acyclic full = (λ few. full (few (omega arith)), before)
    where
      before : (lower : Refusal) → Below refusal.Limit lower → number_of refusal.Cycle ≤ number_of lower → line lower
      before refusal.Cycle less counts = acyclic
      before lower less counts = absurd (omega (arith, less, counts))

  -- ---- the least of all lines

  barred : (r : Refusal) → ¬ line r → ((lower : Refusal) → Below r lower → line lower) → IsBarredAddition c s r
  barred r never before = inr (never, before)

  pub barred_by_ends : Decides false (line refusal.UnknownOperation) → IsBarredAddition c s refusal.UnknownOperation
  barred_by_ends never =
      barred refusal.UnknownOperation (refuted never)
      (line_by_line (Below refusal.UnknownOperation) (past refl) (past refl) (past refl) (past refl) (past refl) (past refl) (past refl))

  module _ (ends : Decides true (line refusal.UnknownOperation)) where
    pub barred_by_workstations : Decides false (line refusal.UnknownWorkstation) → IsBarredAddition c s refusal.UnknownWorkstation
    barred_by_workstations never =
        barred refusal.UnknownWorkstation (refuted never)
        (line_by_line (Below refusal.UnknownWorkstation) (λ _. ends.0 refl) (past refl) (past refl) (past refl) (past refl) (past refl) (past refl))

    module _ (workstations : Decides true (line refusal.UnknownWorkstation)) where
      pub barred_by_resources : Decides false (line refusal.UnknownResource) → IsBarredAddition c s refusal.UnknownResource
      barred_by_resources never =
          barred refusal.UnknownResource (refuted never)
          (line_by_line (Below refusal.UnknownResource) (λ _. ends.0 refl) (λ _. workstations.0 refl) (past refl) (past refl) (past refl) (past refl) (past refl))

      module _ (resources : Decides true (line refusal.UnknownResource)) where
        pub barred_by_statuses : Decides false (line refusal.WrongStatus) → IsBarredAddition c s refusal.WrongStatus
        barred_by_statuses never =
            barred refusal.WrongStatus (refuted never)
            (line_by_line (Below refusal.WrongStatus) (λ _. ends.0 refl) (λ _. workstations.0 refl) (λ _. resources.0 refl) (past refl) (past refl) (past refl) (past refl))

        module _ (statuses : Decides true (line refusal.WrongStatus)) where
          pub barred_by_key : Decides false (line refusal.Duplicate) → IsBarredAddition c s refusal.Duplicate
          barred_by_key never =
              barred refusal.Duplicate (refuted never)
              (line_by_line (Below refusal.Duplicate) (λ _. ends.0 refl) (λ _. workstations.0 refl) (λ _. resources.0 refl) (λ _. statuses.0 refl) (past refl) (past refl) (past refl))

          module _ (new : Decides true (line refusal.Duplicate)) where
            -- by the plan that it makes
            before_growth : (lower : Refusal) → Below refusal.Cycle lower → line lower
            before_growth = line_by_line (Below refusal.Cycle) (λ _. ends.0 refl) (λ _. workstations.0 refl) (λ _. resources.0 refl) (λ _. statuses.0 refl) (λ _. new.0 refl) (past refl) (past refl)

            barred_by_growth : (r : Refusal) → (r ≡ refusal.Memory) ⊎ IsLeastRefusal (from_on refusal.Cycle line) r → IsBarredAddition c s r
            barred_by_growth r (inl memory) = inl memory
            barred_by_growth r (inr least) = inr (least_of_all refusal.Cycle line before_growth r least)

            may_be_added : NoneRefuses (from_on refusal.Cycle line) → NoneRefuses (MayBeAdded c s)
            may_be_added = none_of_all refusal.Cycle line before_growth

            pub told_by_growth : {T : Type 0} (answer : Result T Refusal) → OnOk answer (NoneRefuses (from_on refusal.Cycle line)) → IfErr answer (λ r. (r ≡ refusal.Memory) ⊎ IsLeastRefusal (from_on refusal.Cycle line) r)
                → OnOk answer (NoneRefuses (MayBeAdded c s)) × IfErr answer (IsBarredAddition c s)
            told_by_growth answer grown refused = (if_ok answer grown may_be_added, if_err answer refused barred_by_growth)
