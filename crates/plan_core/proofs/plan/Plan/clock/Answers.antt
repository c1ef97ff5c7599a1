use Rattle.plan_core.proofs.Seen.{seen_sound}
use Rattle.plan_core.proofs.plan.Plan.clock.Goals as goal

pub returns-clause-sound : goal.returns-clause-sound
returns-clause-sound c = seen_sound c.self.inside.clock c.self.inside.loaded c.args.self.now c.self.invariant c.self.view_is
