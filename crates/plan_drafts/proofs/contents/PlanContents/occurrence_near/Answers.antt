use Rattle.std.proofs.Common.{ap}
use Rattle.plan_basics.specs.Keys.{occurrence_cmp_total, occurrence_cmp-IsAntisymmetric}
use Rattle.plan_drafts.proofs.Held.{looked_up}
use Rattle.plan_drafts.proofs.contents.PlanContents.occurrence_near.Goals as goal

pub returns-in-Some-clause-found : goal.returns-in-Some-clause-found
returns-in-Some-clause-found c =
    looked_up occurrence_cmp_total occurrence_cmp-IsAntisymmetric c.deref.result.now c.self.inside.occurrences.items c.deref.ensures.value c.args.self.now.occurrences (ap (λ v. v.occurrences) c.self.view_is) c.self.invariant.occurrences
    c.args.key.now c.in-Some.place c.in-Some.ensures.found c.index.result.now c.index.ensures
