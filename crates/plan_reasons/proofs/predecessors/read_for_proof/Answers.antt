use Rattle.std.proofs.Common.{subst}
use Rattle.plan_model.specs.Valid.{IsSound}
use Rattle.plan_reasons.proofs.predecessors.read_for_proof.Goals as goal

pub returns : goal.returns
returns c = subst IsSound c.contents.ensures.contents c.valid.ensures.sound
