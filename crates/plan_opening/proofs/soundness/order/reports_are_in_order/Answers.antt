use Rattle.std.proofs.Common.{◌≡◌, ◌≤◌, refl, sym, ◌∙◌, arith, true≢false, get_or, length, slice_get, Some}
use Rattle.std.specs.FinMap.{entries}
use Rattle.std.proofs.lemmas.Option.{slice_get-get_or}
use Rattle.plan_basics.specs.declared.keys.OpKey.{OpKey}
use Rattle.plan_model.specs.Contents.{Operation}
use Rattle.plan_rows.specs.plan_status.proofs.LoadedRows.{row_found}
use Rattle.plan_rows.specs.plan_status.proofs.RowKeys.{row_read}
use Rattle.plan_basics.specs.Keys.{operation_cmp_total, operation_cmp-IsAntisymmetric}
use Rattle.plan_opening.specs.Laws.{IsReportedInOrder}
use Rattle.plan_opening.proofs.EachRow.{so_of_all, so_of_none, so_of_one_more}
use Rattle.plan_opening.proofs.soundness.order.reports_are_in_order.Goals as goal

pub loop-i-init : goal.loop-i-init
loop-i-init c = so_of_none (IsReportedInOrder c.args.contents.now) (entries c.args.contents.now.operations)

pub loop-i-preserved : goal.loop-i-preserved
loop-i-preserved c =
    let P = c.args.contents.now in
    let rows = c.operations-rows.result.now in
    let i = c.loop-i.i in
    let row : OpKey × Operation = get_or rows i c.index-rows-i.result in
    let at : slice_get (entries P.operations) i ≡ Some row = row_read rows (entries P.operations) c.operations-rows.ensures.rows i c.index-rows-i.result (omega (arith, c.loop-i-test.true, c.requires.size)) in
    let stands = c.requires.each i row.0 row.1 _ at (slice_get-get_or c.args.standings.now i _ c.loop-i-test.true) in
    so_of_one_more (IsReportedInOrder P) (entries P.operations) i row.0 row.1 at c.loop-i.invariant ((c.is_reported_in_order.ensures P row.0 stands).0 c.if-not-is_reported_in_order.false)

pub returns-then-not-is_reported_in_order : goal.returns-then-not-is_reported_in_order
returns-then-not-is_reported_in_order c =
    let P = c.args.contents.now in
    let rows = c.operations-rows.result.now in
    let i = c.loop-i.i in
    let row : OpKey × Operation = get_or rows i c.index-rows-i.result in
    let at : slice_get (entries P.operations) i ≡ Some row = row_read rows (entries P.operations) c.operations-rows.ensures.rows i c.index-rows-i.result (omega (arith, c.loop-i-test.true, c.requires.size)) in
    let stands = c.requires.each i row.0 row.1 _ at (slice_get-get_or c.args.standings.now i _ c.loop-i-test.true) in
    let found = row_found P i row.0 row.1 at in (
      λ never. absurd (true≢false (sym never)),
      λ all. absurd (true≢false (sym ((c.is_reported_in_order.ensures P row.0 stands).1 (all row.0 row.1 found)) ∙ c.if-not-is_reported_in_order.true)),
    )

pub returns : goal.returns
returns c =
    let P = c.args.contents.now in
    let past : length (entries P.operations) ≤ c.loop-i.i = omega (arith, c.loop-i-test.false, c.requires.size) in
    (λ _. so_of_all (IsReportedInOrder P) operation_cmp_total operation_cmp-IsAntisymmetric P.operations c.loop-i.i past c.loop-i.invariant, λ _. refl)
