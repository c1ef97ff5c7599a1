use Rattle.worked_examples.proofs.DailyEnds.{end_twice}
use Rattle.worked_examples.proofs.TrioAgain.{tick_twice}
use Rattle.worked_examples.proofs.requests_made_twice.Goals as goal

pub returns : goal.returns
returns c = record { tick = tick_twice; end = end_twice }
