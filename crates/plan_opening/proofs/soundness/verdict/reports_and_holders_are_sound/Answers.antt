use Rattle.plan_opening.proofs.soundness.verdict.reports_and_holders_are_sound.Goals as goal

pub returns-then-reports_are_in_order : goal.returns-then-reports_are_in_order
returns-then-reports_are_in_order c = (
  λ yes.
      let holders = c.holders_are_sound.ensures.0 yes in
      (c.reports_are_in_order.ensures.0 c.if-reports_are_in_order.true, holders.0, holders.1),
  λ all. c.holders_are_sound.ensures.1 (all.1, all.2),
)
