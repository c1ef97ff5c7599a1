use Rattle.std.proofs.Common.{ap}
use Rattle.plan_basics.specs.Keys.{occurrence_cmp_total, occurrence_cmp-IsAntisymmetric}
use Rattle.plan_drafts.proofs.Held.{absent_in, found_in}
use Rattle.plan_drafts.proofs.contents.PlanContents.occurrence_place.Goals as goal

pub returns-clause-found : goal.returns-clause-found
returns-clause-found c = found_in occurrence_cmp_total occurrence_cmp-IsAntisymmetric c.deref.result.now c.self.inside.occurrences.items c.deref.ensures.value c.args.self.now.occurrences (ap (λ v. v.occurrences) c.self.view_is) c.self.invariant.occurrences c.args.key.now c.row_place.result c.row_place.ensures.found

pub returns-clause-absent : goal.returns-clause-absent
returns-clause-absent c none = absent_in occurrence_cmp_total occurrence_cmp-IsAntisymmetric c.deref.result.now c.self.inside.occurrences.items c.deref.ensures.value c.args.self.now.occurrences (ap (λ v. v.occurrences) c.self.view_is) c.self.invariant.occurrences c.args.key.now (c.row_place.ensures.absent none)
