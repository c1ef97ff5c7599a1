use Rattle.std.proofs.Common.{◌≡◌, ◌≤◌, refl, sym, ap, ◌∙◌, arith, true≢false, length, slice_get, Some}
use Rattle.std.specs.FinMap.{entries}
use Rattle.plan_rows.specs.plan_status.proofs.LoadedRows.{row_found}
use Rattle.plan_rows.specs.plan_status.proofs.RowKeys.{row_lent}
use Rattle.plan_basics.specs.Keys.{operation_cmp_total, operation_cmp-IsAntisymmetric}
use Rattle.plan_opening.specs.Laws.{HasMarkAllowed}
use Rattle.plan_opening.proofs.EachRow.{so_of_all, so_of_none, so_of_one_more}
use Rattle.plan_opening.proofs.soundness.marks.marks_are_allowed.Goals as goal
use Rattle.plan_opening.proofs.soundness.marks.marks_are_allowed.Goals.{After-row-item}

-- the row that is gone through
row : (c : After-row-item) → slice_get (entries c.args.contents.now.operations) c.loop-row.row-index ≡ Some c.row-item.result
row c = row_lent c.operations-row-items.result.now _ c.operations-row-items.ensures.rows c.loop-row.row-index c.row-item.result c.loop-row-test.true c.row-item.is

pub has_mark_allowed-requires : goal.has_mark_allowed-requires
has_mark_allowed-requires c = (c.row-item.result.0, row_found c.args.contents.now c.loop-row.row-index c.row-item.result.0 c.row-item.result.1 (row c))

pub loop-row-init : goal.loop-row-init
loop-row-init c = so_of_none (λ o op. HasMarkAllowed c.args.contents.now op) (entries c.args.contents.now.operations)

pub loop-row-preserved : goal.loop-row-preserved
loop-row-preserved c =
    let P = c.args.contents.now in
    let at = row ((goal.at.loop-row-preserved c).After-row-item) in
    so_of_one_more (λ o op. HasMarkAllowed P op) (entries P.operations) c.loop-row.row-index c.row-item.result.0 c.row-item.result.1 at c.loop-row.invariant (c.has_mark_allowed.ensures.0 c.if-not-has_mark_allowed.false)

pub returns-then-not-has_mark_allowed-clause-allowed : goal.returns-then-not-has_mark_allowed-clause-allowed
returns-then-not-has_mark_allowed-clause-allowed c =
    let at = row ((goal.at.returns-then-not-has_mark_allowed-clause-allowed c).After-row-item) in
    let found = row_found c.args.contents.now c.loop-row.row-index c.row-item.result.0 c.row-item.result.1 at in (
      λ never. absurd (true≢false (sym never)),
      λ all. absurd (true≢false (sym (c.has_mark_allowed.ensures.1 (all c.row-item.result.0 c.row-item.result.1 found)) ∙ c.if-not-has_mark_allowed.true)),
    )

pub returns-clause-allowed : goal.returns-clause-allowed
returns-clause-allowed c =
    let P = c.args.contents.now in
    let past : length (entries P.operations) ≤ c.loop-row.row-index = omega (arith, c.loop-row-test.false, ap length c.operations-row-items.ensures.rows) in
    (λ _. so_of_all (λ o op. HasMarkAllowed P op) operation_cmp_total operation_cmp-IsAntisymmetric P.operations c.loop-row.row-index past c.loop-row.invariant, λ _. refl)
