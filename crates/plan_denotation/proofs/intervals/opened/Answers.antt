use Rattle.std.proofs.Common.{◌∙◌, ap₂, subst, ◌≤◌, length}
use Rattle.std.specs.Prelude.{AllPairs}
use Rattle.plan_basics.specs.declared.limits.TheConstants.{MOST_INTERVALS}
use Rattle.plan_basics.specs.Intervals.{AreApart}
use Rattle.plan_basics.specs.declared.Refusal.TheVariants as refusal
use Rattle.plan_model.specs.workstations.specs.Timetables.{reopened}
use Rattle.plan_denotation.proofs.intervals.opened.Goals as goal

pub returns-in-Ok : goal.returns-in-Ok
returns-in-Ok c = (
  record {
    few = subst (λ xs. length xs ≤ MOST_INTERVALS) c.in_ok-own.ensures (c.in-Ok.ensures.taken refusal.Limit);
    apart = subst (AllPairs AreApart) c.in_ok-own.ensures (c.in-Ok.ensures.taken refusal.BadPlan);
  },
  c.in-Ok.ensures.ok ∙ ap₂ (λ w xs. reopened xs w) c.new-workstation.ensures c.in_ok-own.ensures,
)
