use Rattle.std.proofs.Common.{◌∙◌, subst}
use Rattle.std.proofs.lemmas.List.{take_all}
use Rattle.std.specs.List.{AllZip}
use Rattle.plan_shows.specs.Trackers.{IsTrackerView}
use Rattle.plan_shows.proofs.Beside.{zip_more}
use Rattle.plan_shows.proofs.trackers.tracker_views.Goals as goal

pub loop-row-preserved : goal.loop-row-preserved
loop-row-preserved c =
    rw c.in_ok-push.ensures.items
    (zip_more IsTrackerView c.rows-row-items.result.now c.loop-row.views.items c.loop-row.row-index c.row-item.result c.in_ok-tracker_view.field-0 c.loop-row-test.true c.row-item.is c.loop-row.invariant c.in_ok-tracker_view.ensures)

pub returns : goal.returns
returns c = subst (λ xs. AllZip IsTrackerView xs c.loop-row.views.items) (take_all c.loop-row.row-index c.rows-row-items.result.now c.loop-row-test.false ∙ c.rows-row-items.ensures) c.loop-row.invariant
