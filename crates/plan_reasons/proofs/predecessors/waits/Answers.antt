use Rattle.std.proofs.Common.{subst}
use Rattle.plan_model.specs.Status.{HasStatus}
use Rattle.plan_reasons.proofs.Waits.{none_waited_for}
use Rattle.plan_reasons.proofs.predecessors.waits.Goals as goal

pub waited_for-requires-clause-waits : goal.waited_for-requires-clause-waits
waited_for-requires-clause-waits c o at = subst (HasStatus c.args.loaded.now o) c.in-Waiting.is (c.status_at.ensures o at.0 at.1)

pub returns-in_default-clause-reasons : goal.returns-in_default-clause-reasons
returns-in_default-clause-reasons c o op m at =
    none_waited_for c.args.loaded.now c.read_for_proof.ensures.valid o c.status_at.result (c.status_at.ensures o op at) c.in_default.not-Waiting op m c.new.result.items c.new.ensures.items
