use Rattle.std.proofs.Common.{◌≡◌, sym, ◌∙◌, ap, subst, arith, true≢false, ◌+◌, get_or, slice_get, Some}
use Rattle.std.proofs.lemmas.Option.{slice_get-get_or}
use Rattle.plan_model.specs.Contents.{Contents}
use Rattle.plan_model.specs.operation_graph.specs.Graphs.{HasEdge}
use Rattle.plan_reasons.specs.plan_drafts.specs.PlanGraphs.{IsGraphFor}
use Rattle.plan_outlooks.specs.Paths.{IsAwaited}
use Rattle.plan_outlooks.proofs.FirstOnes.{AreFirst, IsLeastOf, first_of_least, least_still, least_with, row_within}
use Rattle.plan_outlooks.proofs.GraphRows.{before_by_edge, edge_before, row_by_edge}
use Rattle.plan_outlooks.proofs.IntervalsNeeds.{read_anyhow}
use Rattle.plan_outlooks.proofs.paths.awaited.Goals as goal
use Rattle.plan_outlooks.proofs.paths.awaited.Goals.{else-ends_by, then-ends_by}

pub ends_by-requires : goal.ends_by-requires
ends_by-requires c =
    let (F, lent, here) = c.requires in
    let items = c.preds-other-items.result.now in
    let i = c.loop-other.other-index in
    let other = get_or items i 0 in
    let g = c.graph-graph.result.now in
    let is = subst (λ (P : Contents). IsGraphFor P g) lent.plan c.graph-graph.ensures in
    let edge : HasEdge g other c.args.place = (c.preds-other-items.ensures.preds.1 other).0 (i, c.loop-other-test.true, read_anyhow items i other 0 c.loop-other-test.true) in
    let row = row_by_edge F g is other c.args.place edge in
    (F, lent, row_within F other row.0 row.1)

pub loop-other-preserved : goal.loop-other-preserved
loop-other-preserved c = λ F o lent at.
    let items = c.preds-other-items.result.now in
    let i = c.loop-other.other-index in
    let other = get_or items i 0 in
    let g = c.graph-graph.result.now in
    let is = subst (λ (P : Contents). IsGraphFor P g) lent.plan c.graph-graph.ensures in
    let edge : HasEdge g other c.args.place = (c.preds-other-items.ensures.preds.1 other).0 (i, c.loop-other-test.true, read_anyhow items i other 0 c.loop-other-test.true) in
    let row = row_by_edge F g is other c.args.place edge in
    let there : slice_get items i ≡ Some other = slice_get-get_or items i 0 c.loop-other-test.true in
    elim c.if-ends_by.branch [
      | then-ends_by w ↦
          let told = (c.ends_by.ensures F row.0 lent row.1).0 w.if-ends_by.true in
          let so : IsAwaited F o c.args.moment row.0 = (before_by_edge F g is other c.args.place row.0 o row.1 at edge, told.0, told.1) in
          subst (IsLeastOf F (IsAwaited F o c.args.moment) (AreFirst items (i + 1))) (sym w.first-is)
          (least_with F (IsAwaited F o c.args.moment) items i other there row.0 row.1 so c.loop-other.first (c.loop-other.invariant F o lent at) w.lesser.result w.lesser.ensures)
      | else-ends_by w ↦
          subst (IsLeastOf F (IsAwaited F o c.args.moment) (AreFirst items (i + 1))) (sym w.first-is)
          (least_still F (IsAwaited F o c.args.moment) items i other there c.loop-other.first (c.loop-other.invariant F o lent at)
          (λ p its so. true≢false (sym ((c.ends_by.ensures F p lent its).1 (so.1, so.2)) ∙ w.if-ends_by.false)))
    ]

pub returns : goal.returns
returns c = λ F o lent at.
    let items = c.preds-other-items.result.now in
    let n = c.loop-other.other-index in
    let g = c.graph-graph.result.now in
    let is = subst (λ (P : Contents). IsGraphFor P g) lent.plan c.graph-graph.ensures in
    let past = c.loop-other-test.false in
    first_of_least F (IsAwaited F o c.args.moment) (AreFirst items n)
    (λ i p row so.
    let has = (c.preds-other-items.ensures.preds.1 i).1 (edge_before F g is i c.args.place p o row at so.0) in
    let within = has.1 in
    (has.0, omega (arith, within, past), slice_get-get_or items has.0 i has.1 ∙ ap Some has.2))
    (λ p so. so.1.0) c.loop-other.first (c.loop-other.invariant F o lent at)
