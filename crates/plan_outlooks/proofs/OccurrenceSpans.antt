-- The indices of an occurrence's operations.
use Rattle.std.proofs.Common.{◌≡◌, inl, inr, refl, ◌∙◌, ap, arith, ℕ, ◌≤◌, length, Ordering, Less, Equal, Greater}
use Rattle.std.specs.FinMap.{entries}
use Rattle.std.proofs.lemmas.Bool.{cases_lt}
use Rattle.std.proofs.lemmas.Cmp.{tied_itself}
use Rattle.plan_basics.specs.Keys.{occurrence_cmp, occurrence_cmp_total, occurrence_cmp-IsAntisymmetric}
use Rattle.plan_basics.specs.declared.keys.OccKey.{OccKey}
use Rattle.plan_basics.specs.declared.keys.OpKey.{OpKey}
use Rattle.plan_model.specs.Contents.{Contents}
use Rattle.plan_outlooks.specs.Spans.{AreBefore, AreOperationsOf, AreThrough}

-- an order that is neither less nor greater is equal
equal_by : (r : Ordering) → (r ≡ Less → ⊥) → (r ≡ Greater → ⊥) → r ≡ Equal
equal_by Less not_less not_greater = absurd (not_less refl)
equal_by Equal not_less not_greater = refl
equal_by Greater not_less not_greater = absurd (not_greater refl)

module _ (P : Contents) (c : OccKey) (first end : ℕ) (before : AreBefore (entries P.operations) c first) (through : AreThrough (entries P.operations) c end) where
  same_is : (o : OpKey) → o.occurrence ≡ c → occurrence_cmp o.occurrence c ≡ Equal
  same_is o same = ap (λ k. occurrence_cmp k c) same ∙ tied_itself occurrence_cmp_total c

  pub operations_of : end ≤ length (entries P.operations) → AreOperationsOf P c first end
  operations_of within = record {
    within = within;
    are = λ i o op at. (
      (λ same. (
        elim (cases_lt i first) [
          | inl earlier ↦ (let less = (before i o op at).0 earlier in let tied = same_is o same in absurd (cc))
          | inr from ↦ from
        ],
        (through i o op at).1 (λ greater. let tied = same_is o same in cc),
      )),
      (λ (from, up).
          occurrence_cmp-IsAntisymmetric o.occurrence c
          (equal_by (occurrence_cmp o.occurrence c) (λ less. let earlier = (before i o op at).1 less in omega (arith, earlier, from)) ((through i o op at).0 up))),
    );
  }
