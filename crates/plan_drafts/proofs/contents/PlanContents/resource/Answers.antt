use Rattle.std.proofs.Common.{ap, sym}
use Rattle.plan_basics.specs.Keys.{name_cmp_total, name_cmp-IsAntisymmetric}
use Rattle.plan_drafts.proofs.Held.{looked_up}
use Rattle.plan_drafts.proofs.contents.PlanContents.resource.Goals as goal

pub returns-in-Some : goal.returns-in-Some
returns-in-Some c =
    sym (looked_up name_cmp_total name_cmp-IsAntisymmetric c.deref.result.now c.self.inside.resources.items c.deref.ensures.value c.args.self.now.resources (ap (λ v. v.resources) c.self.view_is) c.self.invariant.resources
    c.args.name.now c.in-Some.place c.in-Some.ensures.found c.index.result.now c.index.ensures)
