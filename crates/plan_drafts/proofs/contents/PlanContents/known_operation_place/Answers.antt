use Rattle.std.proofs.Common.{ap}
use Rattle.plan_basics.specs.Keys.{operation_cmp_total, operation_cmp-IsAntisymmetric}
use Rattle.plan_drafts.proofs.Held.{at_entry, known_in, within_entries}
use Rattle.plan_drafts.proofs.contents.PlanContents.known_operation_place.Goals as goal

pub known_row_lately-requires-clause-known : goal.known_row_lately-requires-clause-known
known_row_lately-requires-clause-known c = known_in operation_cmp_total operation_cmp-IsAntisymmetric c.deref.result.now c.self.inside.operations.items c.deref.ensures.value c.args.self.now.operations (ap (λ v. v.operations) c.self.view_is) c.self.invariant.operations c.args.key.now c.requires

pub returns-clause-within : goal.returns-clause-within
returns-clause-within c = within_entries operation_cmp_total operation_cmp-IsAntisymmetric c.deref.result.now c.self.inside.operations.items c.deref.ensures.value c.args.self.now.operations (ap (λ v. v.operations) c.self.view_is) c.self.invariant.operations c.known_row_lately.result c.known_row_lately.ensures.within

pub returns-clause-at : goal.returns-clause-at
returns-clause-at c = at_entry operation_cmp_total operation_cmp-IsAntisymmetric c.deref.result.now c.self.inside.operations.items c.deref.ensures.value c.args.self.now.operations (ap (λ v. v.operations) c.self.view_is) c.self.invariant.operations c.args.key.now c.known_row_lately.result c.known_row_lately.ensures.at
