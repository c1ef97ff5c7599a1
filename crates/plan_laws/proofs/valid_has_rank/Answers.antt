use Rattle.plan_laws.proofs.Ordered.{valid_has_rank}
use Rattle.plan_laws.proofs.valid_has_rank.Goals as goal

pub returns : goal.returns
returns c = valid_has_rank
