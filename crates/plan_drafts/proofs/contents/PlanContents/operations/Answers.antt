use Rattle.plan_basics.specs.Keys.{operation_cmp, operation_cmp_total, operation_cmp-IsAntisymmetric}
use Rattle.std.proofs.Common.{ap, sym, subst}
use Rattle.std.specs.List.Sorted.{IsStrictlySortedBy}
use Rattle.std.specs.Map.{keys_of}
use Rattle.plan_drafts.proofs.Held.{as_entries}
use Rattle.plan_drafts.proofs.contents.PlanContents.operations.Goals as goal

pub returns-clause-rows : goal.returns-clause-rows
returns-clause-rows c = as_entries operation_cmp_total operation_cmp-IsAntisymmetric c.deref.result.now c.self.inside.operations.items c.deref.ensures.value c.args.self.now.operations (ap (λ v. v.operations) c.self.view_is) c.self.invariant.operations

pub returns-clause-in_order : goal.returns-clause-in_order
returns-clause-in_order c = subst (λ rows. IsStrictlySortedBy operation_cmp (keys_of rows)) (sym c.deref.ensures.value) c.self.invariant.operations
