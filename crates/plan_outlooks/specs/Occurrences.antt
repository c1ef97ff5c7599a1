-- What a forecast tells of the occurrences that are neither complete nor deleted.
use Rattle.std.specs.Prelude.{◌≡◌, ℕ, ◌≤◌, pos, true, List, Option, Some, None}
use Rattle.std.specs.FinMap.{contains_key, get}
use Rattle.plan_basics.specs.Keys.{occurrence_cmp}
use Rattle.plan_basics.specs.declared.keys.OccKey.{OccKey}
use Rattle.plan_basics.specs.declared.keys.OpKey.{OpKey}
use Rattle.plan_model.specs.Contents.{Contents, IsInPlan}
use Rattle.plan_model.specs.Status.{EachOperation, HasOccurrenceStatus}
use Rattle.plan_records.specs.Rows.{IsCount}
use Rattle.status_rules.specs.declared.OccStatus.TheVariants as occurrence
use Rattle.status_rules.specs.declared.Status.TheVariants.{Complete}
use Rattle.plan_outlooks.specs.Forecasts.{Forecast, IsLateBy, StaysOut, minute_or, told_to}
use Rattle.plan_outlooks.specs.Rows.{AreRowsOf}
use Rattle.plan_outlooks.specs.declared.rows.OccurrenceOutlook.{OccurrenceOutlook}

-- c is an occurrence of the plan, neither complete nor deleted
abbrev pub IsOutstandingOccurrence : Contents → OccKey → Type 0
IsOutstandingOccurrence P c = (contains_key P.occurrences c ≡ true) × ¬ HasOccurrenceStatus P c occurrence.Complete × ¬ HasOccurrenceStatus P c occurrence.Deleted

-- m is the minute at which the last of its operations is complete
pub record IsLastEnd (F : Forecast) (c : OccKey) (m : ℕ) : Type 0 where
  pub complete : EachOperation F.last.plan.contents c Complete
  pub last : (o : OpKey) × (o.occurrence ≡ c) × IsInPlan F.plan.contents o × (F.last.done o ≡ Some m)
  pub none_later : (o : OpKey) (n : ℕ) → o.occurrence ≡ c → IsInPlan F.plan.contents o → F.last.done o ≡ Some n → n ≤ m

-- the minute at which it ends; none where some operation isn't complete in the end
abbrev pub IsEnd : Forecast → OccKey → Option ℕ → Type 0
IsEnd F c (Some m) = IsLastEnd F c m
IsEnd F c None = ¬ EachOperation F.last.plan.contents c Complete

-- the occurrence's own columns; its status in the plan as it stands; when it ends; by how much that is after its deadline, or where it doesn't end, the last minute that is told of, so that it is late by that at least; and how many of its operations never begin, those apart that have begun and failed
pub record IsOccurrenceOutlook (F : Forecast) (r : OccurrenceOutlook) : Type 0 where
  pub is_in_plan : get F.plan.contents.occurrences r.key ≡ Some (record { priority = r.priority; deadline = r.deadline })
  pub status : HasOccurrenceStatus F.plan.contents r.key r.status
  pub ending : IsEnd F r.key r.end
  pub late : IsLateBy (Some (minute_or (told_to F) r.end)) (pos r.deadline) r.late
  pub never : IsCount (λ o. (o.occurrence ≡ r.key) × StaysOut F o) r.never

-- all occurrences that are neither complete nor deleted, by key
abbrev pub AreOccurrenceOutlooks : Forecast → List OccurrenceOutlook → Type 0
AreOccurrenceOutlooks F rows =
    AreRowsOf occurrence_cmp (λ (r : OccurrenceOutlook). r.key) (λ (r : OccurrenceOutlook). r.key) (IsOutstandingOccurrence F.plan.contents) (IsOccurrenceOutlook F) rows
