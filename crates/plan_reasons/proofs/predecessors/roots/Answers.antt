use Rattle.std.proofs.Common.{subst}
use Rattle.plan_model.specs.Status.{HasStatus}
use Rattle.plan_reasons.proofs.Waits.{no_roots}
use Rattle.plan_reasons.proofs.predecessors.roots.Goals as goal

pub beginnings-requires-clause-waits : goal.beginnings-requires-clause-waits
beginnings-requires-clause-waits c o at = subst (HasStatus c.args.loaded.now o) c.in-Waiting.is (c.status_at.ensures o at.0 at.1)

pub returns-in_default-clause-roots : goal.returns-in_default-clause-roots
returns-in_default-clause-roots c o at =
    no_roots c.args.loaded.now c.read_for_proof.ensures.valid o c.status_at.result (c.status_at.ensures o at.0 at.1) c.in_default.not-Waiting c.new.result.items c.new.ensures.items
