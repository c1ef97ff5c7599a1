-- A tick on a plan with nothing in it.
use Rattle.std.proofs.Common.{arith, refl, pos, subst, []}
use Rattle.std.specs.List.Sorted.{IsStrictlySortedBy}
use Rattle.std.specs.FinMap.{get, get-empty}
use Rattle.plan_basics.specs.Keys.{operation_cmp}
use Rattle.plan_model.specs.Contents.{nothing}
use Rattle.plan_model.specs.Ready.{IsReadyList, IsChosen}
use Rattle.plan_records.specs.declared.Request.{Request}
use Rattle.plan_records.specs.declared.What.TheVariants as what
use Rattle.plan_records.specs.Answer.{accepted}
use Rattle.plan_records.specs.Step.{Step}
use Rattle.plan_laws.proofs.Every.{nothing_at}
use Rattle.plan_laws.proofs.Kept.{named_none}
use Rattle.worked_examples.specs.Day.{idle, evening, loaded_at}
use Rattle.worked_examples.proofs.Steps.{tick_names}
use Rattle.worked_examples.proofs.TrioChoice.{chosen_by}

abbrev ticking : Request
ticking = record { at = pos evening; what = what.Tick }

nothing_ready : IsReadyList nothing []
unfolding IsStrictlySortedBy
nothing_ready = record {
  ascends = tt;
  has_all = λ k. (
    λ has. absurd (let h = has.1 in omega (arith, h)),
    λ entry. nothing_at (get nothing.operations k.op) entry.2.0 (get-empty operation_cmp k.op) entry.2.1,
  );
}

nothing_chosen : IsChosen nothing evening []
nothing_chosen = chosen_by nothing evening [] [] nothing_ready refl tt tt tt

pub tick_is_accepted : Step idle ticking (accepted []) (loaded_at evening nothing)
tick_is_accepted = subst (λ P. Step idle ticking (accepted []) (loaded_at evening P)) (named_none nothing) (tick_names nothing evening (omega arith) [] nothing_chosen 0 (omega arith))
