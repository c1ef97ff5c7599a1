use Rattle.std.proofs.Common.{map, sym, subst}
use Rattle.std.specs.List.Sorted.{IsStrictlySortedBy}
use Rattle.std.specs.Ordering.{nat_cmp}
use Rattle.workstations.proofs.InTime.{begin_in_order}
use Rattle.workstations.proofs.Workstation.intervals.Goals as goal

pub returns-clause-in_order : goal.returns-clause-in_order
returns-clause-in_order c = subst (λ items. IsStrictlySortedBy nat_cmp (map (λ x. x.from) items)) (sym c.deref.ensures.value) (begin_in_order c.self.inside.intervals.items c.self.invariant.each c.self.invariant.in_order)
