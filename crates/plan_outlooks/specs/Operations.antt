-- What a forecast tells of the operations that it begins, or that are going already.
use Rattle.std.specs.Prelude.{◌≡◌, ℕ, cond, not, List, Some, None, Decides}
use Rattle.std.specs.FinMap.{get}
use Rattle.std.specs.Ordering.{nat_cmp, ordering_then}
use Rattle.std.specs.declared.cmp.Ordering.{Ordering}
use Rattle.plan_basics.specs.Keys.{operation_cmp}
use Rattle.plan_basics.specs.declared.keys.OpKey.{OpKey}
use Rattle.plan_forecast.specs.Ahead.{IsGoing}
use Rattle.plan_model.specs.Contents.{HasAttribute, Operation}
use Rattle.plan_model.specs.Starts.{IsLatestStart}
use Rattle.plan_model.specs.Status.{HasStatus}
use Rattle.plan_reasons.specs.Reasons.{beginning_by}
use Rattle.plan_outlooks.specs.Forecasts.{Begins, Forecast, IsLateBy, IsSinceUnknown, begin_minute, if_known}
use Rattle.plan_outlooks.specs.Overruns.{IsOverBy, IsTaken, planned_end}
use Rattle.plan_outlooks.specs.Rows.{AreRowsOf}
use Rattle.plan_outlooks.specs.declared.rows.OperationOutlook.{OperationOutlook}

-- the operation's own columns; its status, and whether it is going, in the plan as it stands; when it begins, and whether that is known; when it ends; its latest start, and by how much it begins after that, where that is known; what its mark tells of its start; of what is going since when that is so; by how much it runs over its time; and whether its times are only taken, since it does, or waits for what does
pub record IsOperationOutlook (F : Forecast) (r : OperationOutlook) : Type 0 where
  pub op : Operation
  pub is_in_plan : get F.plan.contents.operations r.key ≡ Some op
  pub workstation : (r.workstation ≡ op.workstation) × HasAttribute F.plan.contents op.workstation r.attribute
  pub status : HasStatus F.plan.contents r.key r.status
  pub going : Decides r.is_going (IsGoing F.plan.contents r.key)
  pub begin : r.begin ≡ begin_minute F r.key
  pub known : Decides (not r.is_known) (IsSinceUnknown F r.key)
  pub ending : r.end ≡ F.last.done r.key
  pub latest : IsLatestStart F.plan.contents r.key r.latest
  pub late : IsLateBy (if_known r.is_known r.begin) r.latest r.late
  pub beginning : r.beginning ≡ beginning_by op.mark
  pub since : r.since ≡ cond r.is_going (F.known r.key) None
  pub over : IsOverBy (planned_end op r.since) F.from r.over
  pub taken : Decides r.is_taken (IsTaken F.plan.contents F.known F.from r.key)

-- what its place goes by: when it begins, and then the key
abbrev pub operation_place : OperationOutlook → ℕ × OpKey
operation_place r = (r.begin, r.key)

-- by minute, then key
abbrev pub minute_key_cmp : ℕ × OpKey → ℕ × OpKey → Ordering
minute_key_cmp a b = ordering_then (nat_cmp a.0 b.0) (operation_cmp a.1 b.1)

-- all operations that begin or are going, by key
abbrev pub AreOperationsByKey : Forecast → List OperationOutlook → Type 0
AreOperationsByKey F rows = AreRowsOf operation_cmp (λ (r : OperationOutlook). r.key) (λ (r : OperationOutlook). r.key) (Begins F) (IsOperationOutlook F) rows

-- all operations that begin or are going, by beginning and then key
abbrev pub AreOperationOutlooks : Forecast → List OperationOutlook → Type 0
AreOperationOutlooks F rows = AreRowsOf minute_key_cmp operation_place (λ (r : OperationOutlook). r.key) (Begins F) (IsOperationOutlook F) rows
