use Rattle.std.proofs.Common.{◌≡◌, sym, subst, slice_get, Some}
use Rattle.std.specs.FinMap.{entries}
use Rattle.plan_model.specs.Contents.{Contents}
use Rattle.plan_model.specs.Status.{HasStatus}
use Rattle.derived_figures.proofs.loaded.LoadedPlan.status_at.Goals as goal

pub returns : goal.returns
returns c o op at =
    let here = subst (λ (Q : Contents). slice_get (entries Q.operations) c.args.place ≡ Some (o, op)) (sym c.outline.ensures) at in
    subst (λ (Q : Contents). HasStatus Q o c.status_at.result) c.outline.ensures (c.status_at.ensures o op here).status
