-- What is told of an occurrence, put together.
use Rattle.std.proofs.Common.{◌≡◌, subst, ℕ, ◌≤◌, Bool, true, List, length}
use Rattle.std.specs.Prelude.{Decides}
use Rattle.std.specs.FinMap.{contains_key, entries}
use Rattle.plan_basics.specs.declared.keys.OccKey.{OccKey}
use Rattle.plan_basics.specs.declared.keys.OpKey.{OpKey}
use Rattle.plan_forecast.specs.plan_laws.proofs.Waiting.{one_occurrence_status}
use Rattle.plan_model.specs.Contents.{Contents, Operation}
use Rattle.plan_model.specs.Status.{HasOccurrenceStatus}
use Rattle.status_rules.specs.declared.OccStatus.{OccStatus}
use Rattle.status_rules.specs.declared.OccStatus.TheVariants as occurrence
use Rattle.plan_outlooks.specs.Occurrences.{IsOutstandingOccurrence}
use Rattle.plan_outlooks.specs.Spans.{AreBefore, AreOperationsOf, AreThrough}
use Rattle.plan_outlooks.proofs.OccurrenceSpans.{operations_of}

module _ (P : Contents) (k : OccKey) (s : OccStatus) (has : HasOccurrenceStatus P k s) where
  pub occurrence_by : (b : Bool) → Decides b (¬ (s ≡ occurrence.Complete) × ¬ (s ≡ occurrence.Deleted)) → contains_key P.occurrences k ≡ true → Decides b (IsOutstandingOccurrence P k)
  occurrence_by b told known = (
    (λ e. let are = told.0 e in (known, (λ h. are.0 (one_occurrence_status P k s occurrence.Complete has h)), (λ h. are.1 (one_occurrence_status P k s occurrence.Deleted has h)))),
    (λ is. told.1 ((λ e. is.1 (subst (HasOccurrenceStatus P k) e has)), (λ e. is.2 (subst (HasOccurrenceStatus P k) e has)))),
  )

-- the rows that were searched are the plan's
pub found_among : (P : Contents) (k : OccKey) (first end : ℕ) (rows : List (OpKey × Operation)) → rows ≡ entries P.operations → AreBefore rows k first → AreThrough rows k end → end ≤ length rows → AreOperationsOf P k first end
found_among P k first end rows same before through within =
    operations_of P k first end (subst (λ (xs : List (OpKey × Operation)). AreBefore xs k first) same before) (subst (λ (xs : List (OpKey × Operation)). AreThrough xs k end) same through)
    (subst (λ (xs : List (OpKey × Operation)). end ≤ length xs) same within)
