use Rattle.std.proofs.Common.{◌∙◌, subst, sym}
use Rattle.std.specs.FinMap.{entries}
use Rattle.plan_checks.specs.start_choice.specs.Choices.{AreGivenOut, AreHeldIn}
use Rattle.small_requests.proofs.columns.Allocations.try_clone.Goals as goal

pub returns-clause-allocations : goal.returns-clause-allocations
returns-clause-allocations c = λ P is. record {
  given = subst (AreGivenOut P (entries P.workstations)) (sym (c.in_ok-from_slice.ensures.items ∙ c.deref.ensures.value)) is.given;
  holders = subst (AreHeldIn P) (sym c.in_ok-try_clone.ensures.held) is.holders;
}
