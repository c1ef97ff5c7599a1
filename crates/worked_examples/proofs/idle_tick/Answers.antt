use Rattle.worked_examples.proofs.Idle.{tick_is_accepted}
use Rattle.worked_examples.proofs.idle_tick.Goals as goal

pub returns : goal.returns
returns c = tick_is_accepted
