use Rattle.plan_basics.specs.Keys.{name_cmp, name_cmp_total, name_cmp-IsAntisymmetric}
use Rattle.std.proofs.Common.{ap, sym, subst}
use Rattle.std.specs.List.Sorted.{IsStrictlySortedBy}
use Rattle.std.specs.Map.{keys_of}
use Rattle.plan_drafts.proofs.Held.{as_entries}
use Rattle.plan_drafts.proofs.contents.PlanContents.workstations.Goals as goal

pub returns-clause-rows : goal.returns-clause-rows
returns-clause-rows c = as_entries name_cmp_total name_cmp-IsAntisymmetric c.deref.result.now c.self.inside.workstations.items c.deref.ensures.value c.args.self.now.workstations (ap (λ v. v.workstations) c.self.view_is) c.self.invariant.workstations

pub returns-clause-in_order : goal.returns-clause-in_order
returns-clause-in_order c = subst (λ rows. IsStrictlySortedBy name_cmp (keys_of rows)) (sym c.deref.ensures.value) c.self.invariant.workstations
