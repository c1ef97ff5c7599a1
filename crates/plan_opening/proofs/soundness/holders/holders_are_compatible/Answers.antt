use Rattle.std.proofs.Common.{◌≡◌, ◌≤◌, refl, sym, ap, ◌∙◌, arith, true≢false, length, slice_get, Some}
use Rattle.std.specs.FinMap.{entries}
use Rattle.plan_rows.specs.plan_status.proofs.RowKeys.{row_lent}
use Rattle.plan_basics.specs.Keys.{name_cmp_total, name_cmp-IsAntisymmetric}
use Rattle.plan_opening.specs.Laws.{HasCompatibleHolders}
use Rattle.plan_opening.proofs.EachRow.{so_of_all, so_of_none, so_of_one_more}
use Rattle.plan_opening.proofs.OneResource.{all_compatible, by_compatible, compatible_by}
use Rattle.plan_opening.proofs.soundness.holders.holders_are_compatible.Goals as goal
use Rattle.plan_opening.proofs.soundness.holders.holders_are_compatible.Goals.{After-are_compatible}

-- the resource that is gone through
row : (c : After-are_compatible) → slice_get (entries c.args.contents.now.resources) c.loop-resource.resource-index ≡ Some c.resource-item.result
row c = row_lent c.resources-resource-items.result.now _ c.resources-resource-items.ensures.rows c.loop-resource.resource-index c.resource-item.result c.loop-resource-test.true c.resource-item.is

pub loop-resource-init : goal.loop-resource-init
loop-resource-init c = so_of_none (λ r stock. HasCompatibleHolders c.args.contents.now r) (entries c.args.contents.now.resources)

pub loop-resource-preserved : goal.loop-resource-preserved
loop-resource-preserved c =
    let P = c.args.contents.now in
    let at = row ((goal.at.loop-resource-preserved c).After-are_compatible) in
    let these = compatible_by P c.args.holdings.now.held c.requires c.resource-item.result.0 c.holders.result.now c.holders.ensures.members (c.are_compatible.ensures.0 c.if-not-are_compatible.false) in
    so_of_one_more (λ r stock. HasCompatibleHolders P r) (entries P.resources) c.loop-resource.resource-index c.resource-item.result.0 c.resource-item.result.1 at c.loop-resource.invariant these

pub returns-then-not-are_compatible : goal.returns-then-not-are_compatible
returns-then-not-are_compatible c =
    let P = c.args.contents.now in
    let r = c.resource-item.result.0 in (
      λ never. absurd (true≢false (sym never)),
      λ all. absurd (true≢false (sym (c.are_compatible.ensures.1 (by_compatible P c.args.holdings.now.held c.requires r c.holders.result.now c.holders.ensures.members c.holders.ensures.in_order (all r))) ∙ c.if-not-are_compatible.true)),
    )

pub returns : goal.returns
returns c =
    let P = c.args.contents.now in
    let past : length (entries P.resources) ≤ c.loop-resource.resource-index = omega (arith, c.loop-resource-test.false, ap length c.resources-resource-items.ensures.rows) in
    (λ _. all_compatible P c.resources-resource-items.ensures.valid (so_of_all (λ r stock. HasCompatibleHolders P r) name_cmp_total name_cmp-IsAntisymmetric P.resources c.loop-resource.resource-index past c.loop-resource.invariant), λ _. refl)
