use Rattle.std.proofs.Common.{ap}
use Rattle.plan_basics.specs.Keys.{occurrence_cmp_total, occurrence_cmp-IsAntisymmetric}
use Rattle.plan_drafts.proofs.Held.{at_entry, known_in, within_entries}
use Rattle.plan_drafts.proofs.contents.PlanContents.known_occurrence_place_near.Goals as goal

pub known_row_near-requires-clause-known : goal.known_row_near-requires-clause-known
known_row_near-requires-clause-known c = known_in occurrence_cmp_total occurrence_cmp-IsAntisymmetric c.deref.result.now c.self.inside.occurrences.items c.deref.ensures.value c.args.self.now.occurrences (ap (λ v. v.occurrences) c.self.view_is) c.self.invariant.occurrences c.args.key.now c.requires

pub returns-clause-within : goal.returns-clause-within
returns-clause-within c = within_entries occurrence_cmp_total occurrence_cmp-IsAntisymmetric c.deref.result.now c.self.inside.occurrences.items c.deref.ensures.value c.args.self.now.occurrences (ap (λ v. v.occurrences) c.self.view_is) c.self.invariant.occurrences c.known_row_near.result c.known_row_near.ensures.within

pub returns-clause-at : goal.returns-clause-at
returns-clause-at c = at_entry occurrence_cmp_total occurrence_cmp-IsAntisymmetric c.deref.result.now c.self.inside.occurrences.items c.deref.ensures.value c.args.self.now.occurrences (ap (λ v. v.occurrences) c.self.view_is) c.self.invariant.occurrences c.args.key.now c.known_row_near.result c.known_row_near.ensures.at
