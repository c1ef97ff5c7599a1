use Rattle.std.proofs.Common.{ap}
use Rattle.plan_basics.specs.Keys.{name_cmp_total, name_cmp-IsAntisymmetric}
use Rattle.plan_drafts.proofs.Held.{looked_up, row_read}
use Rattle.plan_drafts.proofs.contents.PlanContents.workstation_near.Goals as goal

pub returns-in-Some-clause-found : goal.returns-in-Some-clause-found
returns-in-Some-clause-found c =
    let rows = c.self.inside.workstations.items in
    let is = ap (λ v. v.workstations) c.self.view_is in (
      ap (λ r. r.0) (row_read name_cmp_total name_cmp-IsAntisymmetric c.deref.result.now rows c.deref.ensures.value c.args.self.now.workstations is c.self.invariant.workstations c.args.name.now c.in-Some.place c.in-Some.ensures.found c.index.result.now c.index.ensures),
      looked_up name_cmp_total name_cmp-IsAntisymmetric c.deref.result.now rows c.deref.ensures.value c.args.self.now.workstations is c.self.invariant.workstations c.args.name.now c.in-Some.place c.in-Some.ensures.found c.index.result.now c.index.ensures,
    )
