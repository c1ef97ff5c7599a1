use Rattle.std.proofs.Common.{ap}
use Rattle.plan_basics.specs.Keys.{name_cmp_total, name_cmp-IsAntisymmetric}
use Rattle.plan_drafts.proofs.Held.{at_entry, known_in, within_entries}
use Rattle.plan_drafts.proofs.contents.PlanContents.known_workstation_place_near.Goals as goal

pub known_workstation_near-requires-clause-known : goal.known_workstation_near-requires-clause-known
known_workstation_near-requires-clause-known c = known_in name_cmp_total name_cmp-IsAntisymmetric c.deref.result.now c.self.inside.workstations.items c.deref.ensures.value c.args.self.now.workstations (ap (λ v. v.workstations) c.self.view_is) c.self.invariant.workstations c.args.name.now c.requires

pub returns-clause-within : goal.returns-clause-within
returns-clause-within c = within_entries name_cmp_total name_cmp-IsAntisymmetric c.deref.result.now c.self.inside.workstations.items c.deref.ensures.value c.args.self.now.workstations (ap (λ v. v.workstations) c.self.view_is) c.self.invariant.workstations c.known_workstation_near.result c.known_workstation_near.ensures.within

pub returns-clause-at : goal.returns-clause-at
returns-clause-at c = at_entry name_cmp_total name_cmp-IsAntisymmetric c.deref.result.now c.self.inside.workstations.items c.deref.ensures.value c.args.self.now.workstations (ap (λ v. v.workstations) c.self.view_is) c.self.invariant.workstations c.args.name.now c.known_workstation_near.result c.known_workstation_near.ensures.at
