use Rattle.std.proofs.Common.{◌≡◌, ap, subst, ◌∙◌, Some, slice_get}
use Rattle.std.specs.FinMap.{insert}
use Rattle.plan_basics.specs.Keys.{Name, name_cmp_total, name_cmp-IsAntisymmetric}
use Rattle.plan_model.specs.workstations.specs.Workstations.{Workstation}
use Rattle.plan_model.specs.Contents.{Contents}
use Rattle.plan_drafts.specs.Contents.{held_in}
use Rattle.plan_drafts.proofs.Held.{put_in_order, put_is}
use Rattle.plan_drafts.proofs.contents.PlanContents.set_workstation.Goals as goal

pub invariant_of-self : goal.invariant_of-self
invariant_of-self c =
    let found = subst (λ (k : Name). (v : Workstation) × (slice_get c.deref.result.now c.known_workstation-place.result ≡ Some (k, v))) c.name-name.ensures c.known_workstation-place.ensures.at in
    record {
      workstations = put_in_order name_cmp_total name_cmp-IsAntisymmetric c.deref.result.now c.self.inside.workstations.items c.deref.ensures.value c.args.self.now.workstations (ap (λ v. v.workstations) c.self.view_is) c.self.invariant.workstations
          c.args.workstation.0 c.known_workstation-place.result found c.args.workstation.1;
      resources = c.self.invariant.resources;
      occurrences = c.self.invariant.occurrences;
      operations = c.self.invariant.operations;
      pairs = c.self.invariant.pairs;
    }

pub returns : goal.returns
returns c =
    let found = subst (λ (k : Name). (v : Workstation) × (slice_get c.deref.result.now c.known_workstation-place.result ≡ Some (k, v))) c.name-name.ensures c.known_workstation-place.ensures.at in
    ap (λ m. record (held_in c.self.inside) { workstations = m })
    (put_is name_cmp_total name_cmp-IsAntisymmetric c.deref.result.now c.self.inside.workstations.items c.deref.ensures.value c.args.self.now.workstations (ap (λ v. v.workstations) c.self.view_is) c.self.invariant.workstations
    c.args.workstation.0 c.known_workstation-place.result found c.args.workstation.1)
    ∙ ap (λ (v : Contents). record v { workstations = insert v.workstations c.args.workstation.0 c.args.workstation.1 }) c.self.view_is
