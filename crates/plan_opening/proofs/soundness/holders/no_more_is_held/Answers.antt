use Rattle.std.proofs.Common.{◌≡◌, ◌≤◌, refl, sym, ap, ◌∙◌, arith, true≢false, length, slice_get, Some}
use Rattle.std.specs.FinMap.{entries}
use Rattle.plan_drafts.proofs.EntryRows.{row_in}
use Rattle.plan_rows.specs.plan_status.proofs.RowKeys.{row_lent}
use Rattle.plan_basics.specs.Keys.{name_cmp_total, name_cmp-IsAntisymmetric}
use Rattle.plan_opening.specs.Laws.{IsHeldWithin}
use Rattle.plan_opening.proofs.EachRow.{so_of_all, so_of_none, so_of_one_more}
use Rattle.plan_opening.proofs.HeldAmounts.{by_within, within_by}
use Rattle.plan_opening.proofs.soundness.holders.no_more_is_held.Goals as goal
use Rattle.plan_opening.proofs.soundness.holders.no_more_is_held.Goals.{After-are_within}

-- the resource that is gone through
row : (c : After-are_within) → slice_get (entries c.args.contents.now.resources) c.loop-resource.resource-index ≡ Some c.resource-item.result
row c = row_lent c.resources-resource-items.result.now _ c.resources-resource-items.ensures.rows c.loop-resource.resource-index c.resource-item.result c.loop-resource-test.true c.resource-item.is

pub loop-resource-init : goal.loop-resource-init
loop-resource-init c = so_of_none (IsHeldWithin c.args.contents.now) (entries c.args.contents.now.resources)

pub loop-resource-preserved : goal.loop-resource-preserved
loop-resource-preserved c =
    let P = c.args.contents.now in
    let r = c.resource-item.result.0 in
    let stock = c.resource-item.result.1 in
    let at = row ((goal.at.loop-resource-preserved c).After-are_within) in
    let these = within_by P c.args.holdings.now.held c.requires r c.holders.result.now c.holders.ensures.in_order c.holders.ensures.members stock.quantity (c.are_within.ensures.0 c.if-not-are_within.false) in
    so_of_one_more (IsHeldWithin P) (entries P.resources) c.loop-resource.resource-index r stock at c.loop-resource.invariant these

pub returns-then-not-are_within : goal.returns-then-not-are_within
returns-then-not-are_within c =
    let P = c.args.contents.now in
    let r = c.resource-item.result.0 in
    let stock = c.resource-item.result.1 in
    let at = row ((goal.at.returns-then-not-are_within c).After-are_within) in (
      λ never. absurd (true≢false (sym never)),
      λ all.
          let few = by_within P c.args.holdings.now.held c.requires r c.holders.result.now c.holders.ensures.in_order c.holders.ensures.members stock.quantity (all r stock (row_in name_cmp_total name_cmp-IsAntisymmetric P.resources _ r stock at)) in
          absurd (true≢false (sym (c.are_within.ensures.1 few) ∙ c.if-not-are_within.true)),
    )

pub returns : goal.returns
returns c =
    let P = c.args.contents.now in
    let past : length (entries P.resources) ≤ c.loop-resource.resource-index = omega (arith, c.loop-resource-test.false, ap length c.resources-resource-items.ensures.rows) in
    (λ _. so_of_all (IsHeldWithin P) name_cmp_total name_cmp-IsAntisymmetric P.resources c.loop-resource.resource-index past c.loop-resource.invariant, λ _. refl)
