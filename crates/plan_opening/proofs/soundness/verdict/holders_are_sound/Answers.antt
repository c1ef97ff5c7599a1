use Rattle.plan_opening.proofs.soundness.verdict.holders_are_sound.Goals as goal

pub returns-then-holders_are_compatible : goal.returns-then-holders_are_compatible
returns-then-holders_are_compatible c = (
  λ yes. (c.holders_are_compatible.ensures.0 c.if-holders_are_compatible.true, c.no_more_is_held.ensures.0 yes),
  λ both. c.no_more_is_held.ensures.1 both.1,
)
