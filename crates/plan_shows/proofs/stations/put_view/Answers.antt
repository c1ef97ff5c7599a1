use Rattle.std.proofs.Common.{◌≡◌, sym, ap, subst, List, length, true, is_some}
use Rattle.std.specs.FinMap.{contains_key}
use Rattle.plan_reasons.specs.plan_core.specs.Views.{AreReadyViews}
use Rattle.plan_reasons.specs.plan_core.specs.declared.views.OpView.{OpView}
use Rattle.plan_shows.proofs.stations.put_view.Goals as goal

pub ready_count-requires : goal.ready_count-requires
ready_count-requires c = subst (λ n. contains_key c.args.plan.now.plan.contents.workstations n ≡ true) (sym c.name.ensures) (ap is_some c.requires.there)

pub workstation_view-requires-clause-ready : goal.workstation_view-requires-clause-ready
workstation_view-requires-clause-ready c =
    subst (λ n. (views : List OpView) × AreReadyViews c.args.plan.now.plan.contents n views × (c.in_ok-ready.ready ≡ length views)) c.name.ensures c.in_ok-ready.ensures

pub returns : goal.returns
returns c = (c.workstation_view.result, c.in_ok-push_last.ensures, c.workstation_view.ensures)
