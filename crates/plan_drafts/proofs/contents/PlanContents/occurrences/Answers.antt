use Rattle.plan_basics.specs.Keys.{occurrence_cmp, occurrence_cmp_total, occurrence_cmp-IsAntisymmetric}
use Rattle.std.proofs.Common.{ap, sym, subst}
use Rattle.std.specs.List.Sorted.{IsStrictlySortedBy}
use Rattle.std.specs.Map.{keys_of}
use Rattle.plan_drafts.proofs.Held.{as_entries}
use Rattle.plan_drafts.proofs.contents.PlanContents.occurrences.Goals as goal

pub returns-clause-rows : goal.returns-clause-rows
returns-clause-rows c = as_entries occurrence_cmp_total occurrence_cmp-IsAntisymmetric c.deref.result.now c.self.inside.occurrences.items c.deref.ensures.value c.args.self.now.occurrences (ap (λ v. v.occurrences) c.self.view_is) c.self.invariant.occurrences

pub returns-clause-in_order : goal.returns-clause-in_order
returns-clause-in_order c = subst (λ rows. IsStrictlySortedBy occurrence_cmp (keys_of rows)) (sym c.deref.ensures.value) c.self.invariant.occurrences
