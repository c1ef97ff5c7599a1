-- What is told of an operation that begins, put together.
use Rattle.std.proofs.Common.{◌≡◌, sym, subst, cond, not, Some, None}
use Rattle.std.specs.Prelude.{Decides}
use Rattle.std.specs.FinMap.{get}
use Rattle.plan_basics.specs.declared.keys.OpKey.{OpKey}
use Rattle.plan_forecast.specs.Ahead.{IsGoing}
use Rattle.plan_model.specs.Contents.{Contents, HasAttribute}
use Rattle.plan_model.specs.Starts.{IsLatestStart}
use Rattle.plan_model.specs.Status.{HasStatus}
use Rattle.plan_reasons.specs.plan_core.specs.derived_figures.specs.Reports.{IsReported}
use Rattle.plan_reasons.specs.plan_core.specs.derived_figures.specs.declared.outlines.ReportedOperation.{ReportedOperation}
use Rattle.plan_reasons.specs.Reasons.{beginning_by}
use Rattle.plan_outlooks.specs.Forecasts.{Forecast, IsLateBy, IsSinceUnknown, begin_minute, if_known}
use Rattle.plan_outlooks.specs.Lent.{IsLent}
use Rattle.plan_outlooks.specs.Operations.{IsOperationOutlook}
use Rattle.plan_outlooks.specs.Overruns.{IsOverBy, IsTaken, planned_end}
use Rattle.plan_outlooks.specs.declared.refs.ForecastRefs.{ForecastRefs}
use Rattle.plan_outlooks.specs.declared.rows.OperationOutlook.{OperationOutlook}

module _ (F : Forecast) (x : ForecastRefs) (lent : IsLent F x) (o : OpKey) (rep : ReportedOperation) (is : IsReported x.plan.now o rep) (r : OperationOutlook) (key : r.key ≡ o) where
  -- what is so of o in the plan that is lent is so of the row's operation in the forecast's
  to : (C : Contents → OpKey → Type 0) → C x.plan.now o → C F.plan.contents r.key
  to C h = subst (C F.plan.contents) (sym key) (subst (λ (P : Contents). C P o) lent.plan h)

  pub operation_made : r.workstation ≡ rep.operation.now.workstation → r.attribute ≡ rep.attribute → r.status ≡ rep.status → Decides r.is_going (IsGoing F.plan.contents o)
      → r.begin ≡ begin_minute F o → Decides (not r.is_known) (IsSinceUnknown F o) → r.end ≡ F.last.done o → IsLatestStart x.plan.now o r.latest → IsLateBy (if_known r.is_known r.begin) r.latest r.late
      → r.beginning ≡ beginning_by rep.operation.now.mark → r.since ≡ cond r.is_going (F.known o) None → IsOverBy (planned_end rep.operation.now r.since) x.from r.over → Decides r.is_taken (IsTaken F.plan.contents F.known F.from o) → IsOperationOutlook F r
  operation_made workstation attribute status going begin known ending latest late beginning since over taken = record {
    op = rep.operation.now;
    is_in_plan = to (λ P k. get P.operations k ≡ Some rep.operation.now) is.operation;
    workstation = (workstation, to (λ P k. HasAttribute P rep.operation.now.workstation r.attribute) (subst (HasAttribute x.plan.now rep.operation.now.workstation) (sym attribute) is.attribute));
    status = to (λ P k. HasStatus P k r.status) (subst (HasStatus x.plan.now o) (sym status) is.status);
    going = subst (λ k. Decides r.is_going (IsGoing F.plan.contents k)) (sym key) going;
    begin = subst (λ k. r.begin ≡ begin_minute F k) (sym key) begin;
    known = subst (λ k. Decides (not r.is_known) (IsSinceUnknown F k)) (sym key) known;
    ending = subst (λ k. r.end ≡ F.last.done k) (sym key) ending;
    latest = to (λ P k. IsLatestStart P k r.latest) latest;
    late = late;
    beginning = beginning;
    since = subst (λ k. r.since ≡ cond r.is_going (F.known k) None) (sym key) since;
    over = subst (λ m. IsOverBy (planned_end rep.operation.now r.since) m r.over) lent.from over;
    taken = subst (λ k. Decides r.is_taken (IsTaken F.plan.contents F.known F.from k)) (sym key) taken;
  }
