use Rattle.std.proofs.Common.{◌≡◌, ◌≤◌, ◌-◌, refl, sym, ap, ◌∙◌, arith, true≢false, length, slice_get, Some}
use Rattle.std.specs.FinMap.{entries}
use Rattle.plan_rows.specs.plan_status.proofs.RowKeys.{row_lent}
use Rattle.plan_opening.proofs.Neighbours.{alike_by_whole, alike_first, alike_more, whole}
use Rattle.plan_opening.proofs.soundness.occurrences.occurrences_are_deleted_whole.Goals as goal
use Rattle.plan_opening.proofs.soundness.occurrences.occurrences_are_deleted_whole.Goals.{After-are_deleted_alike}

-- the two rows that are compared
before_it : (c : After-are_deleted_alike) → slice_get (entries c.args.contents.now.operations) (c.loop-i.i - 1) ≡ Some c.index-rows-i.result
before_it c = row_lent c.operations-rows.result.now _ c.operations-rows.ensures.rows (c.loop-i.i - 1) c.index-rows-i.result (omega (arith, c.loop-i-test.true)) c.index-rows-i.is

it : (c : After-are_deleted_alike) → slice_get (entries c.args.contents.now.operations) c.loop-i.i ≡ Some c.index-rows-i-in-loop-i.result
it c = row_lent c.operations-rows.result.now _ c.operations-rows.ensures.rows c.loop-i.i c.index-rows-i-in-loop-i.result c.loop-i-test.true c.index-rows-i-in-loop-i.is

pub loop-i-init : goal.loop-i-init
loop-i-init c = alike_first (entries c.args.contents.now.operations)

pub loop-i-preserved : goal.loop-i-preserved
loop-i-preserved c =
    let a : After-are_deleted_alike = (goal.at.loop-i-preserved c).After-are_deleted_alike in
    alike_more (entries c.args.contents.now.operations) c.loop-i.i c.index-rows-i.result c.index-rows-i-in-loop-i.result c.loop-i.auto.i (before_it a) (it a) (c.are_deleted_alike.ensures.0 c.if-not-are_deleted_alike.false) c.loop-i.invariant

pub returns-then-not-are_deleted_alike : goal.returns-then-not-are_deleted_alike
returns-then-not-are_deleted_alike c =
    let a : After-are_deleted_alike = (goal.at.returns-then-not-are_deleted_alike c).After-are_deleted_alike in (
      λ never. absurd (true≢false (sym never)),
      λ all. absurd (true≢false (sym (c.are_deleted_alike.ensures.1 (alike_by_whole c.args.contents.now all (c.loop-i.i - 1) c.loop-i.i c.index-rows-i.result c.index-rows-i-in-loop-i.result (before_it a) (it a))) ∙ c.if-not-are_deleted_alike.true)),
    )

pub returns : goal.returns
returns c =
    let P = c.args.contents.now in
    let past : length (entries P.operations) ≤ c.loop-i.i = omega (arith, c.loop-i-test.false, ap length c.operations-rows.ensures.rows) in
    (λ _. whole P c.loop-i.i past c.loop-i.invariant, λ _. refl)
