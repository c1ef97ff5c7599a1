use Rattle.small_requests.proofs.FewLooks.{four_looks_each}
use Rattle.small_requests.proofs.laws.whole_plans_look_few.Goals as goal

pub returns : goal.returns
returns c = four_looks_each
