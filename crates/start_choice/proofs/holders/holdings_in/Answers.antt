use Rattle.std.specs.FinMap.{entries}
use Rattle.std.proofs.Common.{◌≡◌, arith, sym, ap, subst, ◌∙◌, ◌≤◌, Some, length, slice_get}
use Rattle.special_resources.specs.Holdings.{HoldingState}
use Rattle.plan_model.specs.Contents.{Operation}
use Rattle.counted_records.specs.plan_status.proofs.LoadedRows.{row_found}
use Rattle.counted_records.specs.plan_status.proofs.RowKeys.{row_lent}
use Rattle.start_choice.specs.Takings.{HaveTaken}
use Rattle.start_choice.proofs.HeldRows.{AreHeldAmong, none_held, row_holds_none, row_takes, rows_held}
use Rattle.start_choice.proofs.holders.holdings_in.Goals as goal
use Rattle.start_choice.proofs.holders.holdings_in.Goals.{After-row-item, then-starts_are_known+in_ok-take_marked, else-starts_are_known}

-- the row that is gone through
row : (c : After-row-item) → slice_get (entries c.args.contents.now.operations) c.loop-row.row-index ≡ Some c.row-item.result
row c = row_lent c.operations-row-items.result.now _ c.operations-row-items.ensures.rows c.loop-row.row-index c.row-item.result c.loop-row-test.true c.row-item.is

pub starts_are_known-requires : goal.starts_are_known-requires
starts_are_known-requires c = (c.row-item.result.0, row_found c.args.contents.now c.loop-row.row-index c.row-item.result.0 c.row-item.result.1 (row c))

pub loop-row-init : goal.loop-row-init
loop-row-init c = subst (λ (z : HoldingState). AreHeldAmong c.args.contents.now 0 z.held) (sym c.new-holdings.ensures) (none_held c.args.contents.now)

pub loop-row-preserved : goal.loop-row-preserved
loop-row-preserved c =
    let contents = c.args.contents.now in
    let i = c.loop-row.row-index in
    let o = c.row-item.result.0 in
    let op = c.row-item.result.1 in
    let held = c.loop-row.holdings.held in
    let at_row = row ((goal.at.loop-row-preserved c).After-row-item) in
    elim c.if-starts_are_known.branch [
      | then-starts_are_known+in_ok-take_marked w ↦
          let its_mark : c.operation.inside.mark ≡ op.mark = ap (λ (op : Operation). op.mark) c.operation.view_is in
          let now = w.take_marked.new.holdings.held in
          let taken : HaveTaken held o op.needs op.mark now = subst (λ mark. HaveTaken held o op.needs mark now) its_mark w.in_ok-take_marked.ensures.taken in
          rw w.holdings-is (row_takes contents i o op at_row held c.loop-row.invariant (sym c.starts_are_known.ensures ∙ w.if-starts_are_known.true) now taken)
      | else-starts_are_known w ↦
          rw w.holdings-is (row_holds_none contents i o op at_row held c.loop-row.invariant (sym c.starts_are_known.ensures ∙ w.if-starts_are_known.false))
    ]

pub returns-clause-held : goal.returns-clause-held
returns-clause-held c =
    let rows = (entries c.args.contents.now.operations) in
    let past : length rows ≤ c.loop-row.row-index = omega (arith, c.loop-row-test.false, ap length c.operations-row-items.ensures.rows) in
    rows_held c.args.contents.now c.loop-row.row-index c.loop-row.holdings.held past c.loop-row.invariant
