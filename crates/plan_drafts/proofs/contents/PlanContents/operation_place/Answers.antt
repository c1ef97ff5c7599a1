use Rattle.std.proofs.Common.{ap}
use Rattle.plan_basics.specs.Keys.{operation_cmp_total, operation_cmp-IsAntisymmetric}
use Rattle.plan_drafts.proofs.Held.{absent_in, found_in}
use Rattle.plan_drafts.proofs.contents.PlanContents.operation_place.Goals as goal

pub returns-clause-found : goal.returns-clause-found
returns-clause-found c = found_in operation_cmp_total operation_cmp-IsAntisymmetric c.deref.result.now c.self.inside.operations.items c.deref.ensures.value c.args.self.now.operations (ap (λ v. v.operations) c.self.view_is) c.self.invariant.operations c.args.key.now c.row_place_lately.result c.row_place_lately.ensures.found

pub returns-clause-absent : goal.returns-clause-absent
returns-clause-absent c none = absent_in operation_cmp_total operation_cmp-IsAntisymmetric c.deref.result.now c.self.inside.operations.items c.deref.ensures.value c.args.self.now.operations (ap (λ v. v.operations) c.self.view_is) c.self.invariant.operations c.args.key.now (c.row_place_lately.ensures.absent none)
