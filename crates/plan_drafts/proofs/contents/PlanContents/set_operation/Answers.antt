use Rattle.std.proofs.Common.{ap, ◌∙◌}
use Rattle.std.specs.FinMap.{insert}
use Rattle.plan_basics.specs.Keys.{operation_cmp_total, operation_cmp-IsAntisymmetric}
use Rattle.plan_model.specs.Contents.{Contents}
use Rattle.plan_drafts.specs.Contents.{held_in}
use Rattle.plan_drafts.proofs.Held.{known_in, put_in_order, put_is}
use Rattle.plan_drafts.proofs.contents.PlanContents.set_operation.Goals as goal

pub known_row_lately-place-requires-clause-known : goal.known_row_lately-place-requires-clause-known
known_row_lately-place-requires-clause-known c =
    known_in operation_cmp_total operation_cmp-IsAntisymmetric c.deref.result.now c.self.inside.operations.items c.deref.ensures.value c.args.self.now.operations (ap (λ v. v.operations) c.self.view_is) c.self.invariant.operations c.args.key.now c.requires

pub invariant_of-self : goal.invariant_of-self
invariant_of-self c = record {
  workstations = c.self.invariant.workstations;
  resources = c.self.invariant.resources;
  occurrences = c.self.invariant.occurrences;
  operations = put_in_order operation_cmp_total operation_cmp-IsAntisymmetric c.deref.result.now c.self.inside.operations.items c.deref.ensures.value c.args.self.now.operations (ap (λ v. v.operations) c.self.view_is) c.self.invariant.operations c.args.key.now c.known_row_lately-place.result c.known_row_lately-place.ensures.at c.args.operation;
  pairs = c.self.invariant.pairs;
}

pub returns : goal.returns
returns c =
    ap (λ m. record (held_in c.self.inside) { operations = m })
    (put_is operation_cmp_total operation_cmp-IsAntisymmetric c.deref.result.now c.self.inside.operations.items c.deref.ensures.value c.args.self.now.operations (ap (λ v. v.operations) c.self.view_is) c.self.invariant.operations c.args.key.now c.known_row_lately-place.result c.known_row_lately-place.ensures.at c.args.operation)
    ∙ ap (λ (v : Contents). record v { operations = insert v.operations c.args.key.now c.args.operation }) c.self.view_is
