use Rattle.small_requests.proofs.StepLooks.{small_steps_look_few}
use Rattle.small_requests.proofs.laws.small_steps_look_few.Goals as goal

pub returns : goal.returns
returns c = small_steps_look_few
