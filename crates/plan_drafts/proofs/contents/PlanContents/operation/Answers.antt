use Rattle.std.proofs.Common.{ap}
use Rattle.plan_basics.specs.Keys.{operation_cmp_total, operation_cmp-IsAntisymmetric}
use Rattle.plan_drafts.proofs.Held.{looked_up}
use Rattle.plan_drafts.proofs.contents.PlanContents.operation.Goals as goal

pub returns-in-Some-clause-found : goal.returns-in-Some-clause-found
returns-in-Some-clause-found c =
    looked_up operation_cmp_total operation_cmp-IsAntisymmetric c.deref.result.now c.self.inside.operations.items c.deref.ensures.value c.args.self.now.operations (ap (λ v. v.operations) c.self.view_is) c.self.invariant.operations
    c.args.key.now c.in-Some.place c.in-Some.ensures.found c.index.result.now c.index.ensures
