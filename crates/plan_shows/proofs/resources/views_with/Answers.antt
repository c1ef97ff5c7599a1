use Rattle.std.proofs.Common.{◌∙◌, ap, subst}
use Rattle.std.proofs.lemmas.List.{take_all}
use Rattle.std.specs.FinMap.{entries}
use Rattle.std.specs.List.{AllZip}
use Rattle.plan_model.specs.Contents.{Contents}
use Rattle.plan_shows.specs.Resources.{IsResourceView}
use Rattle.plan_shows.proofs.Beside.{zip_more}
use Rattle.plan_shows.proofs.resources.views_with.Goals as goal

pub loop-resource-preserved : goal.loop-resource-preserved
loop-resource-preserved c =
    rw c.in_ok-push.ensures.items
    (zip_more (IsResourceView c.args.loaded.now) c.resources-resource-items.result.now c.loop-resource.views.items c.loop-resource.resource-index c.resource-item.result c.in_ok-resource_view.field-0
    c.loop-resource-test.true c.resource-item.is c.loop-resource.invariant c.in_ok-resource_view.ensures)

pub returns : goal.returns
returns c =
    let rows = c.resources-resource-items.ensures.rows ∙ ap (λ (Q : Contents). entries Q.resources) (c.valid.ensures.contents ∙ c.contents.ensures.contents) in
    subst (λ xs. AllZip (IsResourceView c.args.loaded.now) xs c.loop-resource.views.items) (take_all c.loop-resource.resource-index c.resources-resource-items.result.now c.loop-resource-test.false ∙ rows) c.loop-resource.invariant
