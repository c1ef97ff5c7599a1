-- What the status of an operation says of the commands that it is open to.
use Rattle.std.proofs.Common.{◌≡◌, ◌≢◌, ◌⊎◌, inl, inr, refl, sym, subst, ◌∙◌, arith, ◌<◌, true, false, true≢false, List}
use Rattle.std.specs.FinMap.{contains_key}
use Rattle.plan_model.specs.Contents.{Contents}
use Rattle.plan_basics.specs.declared.Refusal.{Refusal}
use Rattle.plan_basics.specs.declared.Refusal.TheVariants as refusal
use Rattle.plan_basics.specs.declared.keys.OccKey.{OccKey}
use Rattle.plan_basics.specs.declared.keys.OpKey.{OpKey}
use Rattle.plan_basics.specs.Intervals.{OpenInterval}
use Rattle.plan_basics.specs.Keys.{Name}
use Rattle.plan_basics.specs.Refusals.{number_of, IsLeastRefusal, NoneRefuses}
use Rattle.plan_model.specs.Starts.{Reaches}
use Rattle.plan_model.specs.Status.{EachOperation, HasOccurrenceStatus, HasStatus, IsReady, IsUnderWay, IsWaitingOrReady}
use Rattle.plan_records.specs.Acceptance.{MayBeCompleted, MayBeDeleted, MayBeFlagged, MayBeOpenBy, MayBeRerun, MayBeSetAvailable}
use Rattle.status_rules.specs.declared.OccStatus.{OccStatus}
use Rattle.status_rules.specs.declared.OccStatus.TheVariants as occurrence
use Rattle.status_rules.specs.declared.Status.{Status}
use Rattle.status_rules.specs.declared.Status.TheVariants as status
use Rattle.status_rules.specs.Classes.{is_completable, is_rerunnable, is_waiting_or_ready}
use Rattle.derived_figures.specs.plan_laws.proofs.Classes.{passes, waits_by, waits_told}
use Rattle.plan_checks.specs.Commands.{IsItsUnderWay}
use Rattle.plan_checks.specs.Bars.{FailsAt, MeetsAll}
use Rattle.derived_figures.specs.Reports.{IsReported}
use Rattle.derived_figures.specs.declared.outlines.ReportedOperation.{ReportedOperation}
use Rattle.plan_model.specs.workstations.specs.Timetables.{MayBeTaken}

module _ (P : Contents) (o : OpKey) where
  -- an operation may be completed in these statuses
  abbrev pub IsCompletable : Type 0
  IsCompletable = IsReady P o ⊎ IsUnderWay P o ⊎ HasStatus P o status.Error

  -- and run again in these
  abbrev pub IsRerunnable : Type 0
  IsRerunnable = HasStatus P o status.Interrupted ⊎ HasStatus P o status.Complete ⊎ HasStatus P o status.Error ⊎ HasStatus P o status.Undecided

  pub completable_by : (s : Status) → HasStatus P o s → is_completable s ≡ true → IsCompletable
  completable_by status.Arriving h e = inl (inl h)
  completable_by status.ReadyAfterNonreporting h e = inl (inr (inl h))
  completable_by status.Ready h e = inl (inr (inr h))
  completable_by status.Started h e = inr (inl (inl h))
  completable_by status.Interrupted h e = inr (inl (inr (inl h)))
  completable_by status.Undecided h e = inr (inl (inr (inr h)))
  completable_by status.Error h e = inr (inr h)
  completable_by s h e = absurd (cc)

  pub rerunnable_by : (s : Status) → HasStatus P o s → is_rerunnable s ≡ true → IsRerunnable
  rerunnable_by status.Interrupted h e = inl h
  rerunnable_by status.Complete h e = inr (inl h)
  rerunnable_by status.Error h e = inr (inr (inl h))
  rerunnable_by status.Undecided h e = inr (inr (inr h))
  rerunnable_by s h e = absurd (cc)

  -- the operation has this status alone
  module _ (s : Status) (alone : (t : Status) → HasStatus P o t → t ≡ s) where
    completable_told : IsCompletable → is_completable s ≡ true
    completable_told (inl (inl h)) = passes P o s alone is_completable status.Arriving refl h
    completable_told (inl (inr (inl h))) = passes P o s alone is_completable status.ReadyAfterNonreporting refl h
    completable_told (inl (inr (inr h))) = passes P o s alone is_completable status.Ready refl h
    completable_told (inr (inl (inl h))) = passes P o s alone is_completable status.Started refl h
    completable_told (inr (inl (inr (inl h)))) = passes P o s alone is_completable status.Interrupted refl h
    completable_told (inr (inl (inr (inr h)))) = passes P o s alone is_completable status.Undecided refl h
    completable_told (inr (inr h)) = passes P o s alone is_completable status.Error refl h

    pub not_waiting_or_ready : is_waiting_or_ready s ≡ false → ¬ IsWaitingOrReady P o
    not_waiting_or_ready e h = true≢false (sym (waits_told P o s alone h) ∙ e)

    pub not_completable : is_completable s ≡ false → ¬ IsCompletable
    not_completable e h = true≢false (sym (completable_told h) ∙ e)

  -- ---- a rerun

  pub rerun : IsRerunnable → ((q : OpKey) → q ≢ o → Reaches P o q → ¬ IsUnderWay P q) → NoneRefuses (MayBeRerun P o)
  rerun may none refusal.WrongStatus = may
  rerun may none refusal.Running = none
  rerun may none r = tt

  before_running : IsRerunnable → (lower : Refusal) → number_of lower < 17 → MayBeRerun P o lower
  before_running may refusal.WrongStatus less = may
  before_running may refusal.Running less = absurd (omega (arith, less))
  before_running may r less = tt

  pub running_at_rerun : IsRerunnable → (q : OpKey) → q ≢ o → Reaches P o q → IsUnderWay P q → IsLeastRefusal (MayBeRerun P o) refusal.Running
  running_at_rerun may q apart reached under_way = (λ none. none q apart reached under_way, before_running may)

-- ---- what is reported of an operation, in all plans where it is so

module _ (x : ReportedOperation) where
  -- a hold, a release, a NOP and its end
  pub flagged : is_waiting_or_ready x.status ≡ true → MeetsAll x MayBeFlagged
  flagged waits P o is refusal.WrongStatus = waits_by P o x.status is.status waits
  flagged waits P o is r = tt

  before_flagged : (P : Contents) (o : OpKey) (lower : Refusal) → number_of lower < 9 → MayBeFlagged P o lower
  before_flagged P o refusal.WrongStatus less = absurd (omega (arith, less))
  before_flagged P o r less = tt

  pub not_flagged : is_waiting_or_ready x.status ≡ false → FailsAt x MayBeFlagged refusal.WrongStatus
  not_flagged other P o is = (not_waiting_or_ready P o x.status is.alone other, before_flagged P o)

  -- what a completion asks of it
  abbrev Completes : Contents → OpKey → Refusal → Type 0
  Completes P o = MayBeCompleted P o x.operation.now

  before_completed : (P : Contents) (o : OpKey) (lower : Refusal) → number_of lower < 9 → Completes P o lower
  before_completed P o refusal.WrongStatus less = absurd (omega (arith, less))
  before_completed P o refusal.Held less = absurd (omega (arith, less))
  before_completed P o r less = tt

  pub not_completed : is_completable x.status ≡ false → FailsAt x Completes refusal.WrongStatus
  not_completed other P o is = (not_completable P o x.status is.alone other, before_completed P o)

  module _ (may : is_completable x.status ≡ true) where
    pub completed : x.operation.now.held ≡ false → MeetsAll x Completes
    completed free P o is refusal.WrongStatus = completable_by P o x.status is.status may
    completed free P o is refusal.Held = free
    completed free P o is r = tt

    before_held : (P : Contents) (o : OpKey) → IsReported P o x → (lower : Refusal) → number_of lower < 11 → Completes P o lower
    before_held P o is refusal.WrongStatus less = completable_by P o x.status is.status may
    before_held P o is refusal.Held less = absurd (omega (arith, less))
    before_held P o is r less = tt

    pub held_at_completion : x.operation.now.held ≡ true → FailsAt x Completes refusal.Held
    held_at_completion held P o is = (λ free. true≢false (sym held ∙ free), before_held P o is)

-- ---- the deletion of an occurrence

-- an occurrence whose status is another isn't deleted
not_all_deleted : (P : Contents) (c : OccKey) (s : OccStatus) → HasOccurrenceStatus P c s → s ≢ occurrence.Deleted → ¬ EachOperation P c status.Deleted
not_all_deleted P c occurrence.Deleted h other = absurd (other refl)
not_all_deleted P c s h other = h.1 occurrence.Deleted (omega arith)

module _ (P : Contents) (c : OccKey) (known : contains_key P.occurrences c ≡ true) (s : OccStatus) (has : HasOccurrenceStatus P c s) where
  pub deleted_twice : s ≡ occurrence.Deleted → IsLeastRefusal (MayBeDeleted P c) refusal.WrongStatus
  deleted_twice is = (λ never. never (subst (HasOccurrenceStatus P c) is has).0, before)
    where
      before : (lower : Refusal) → number_of lower < 9 → MayBeDeleted P c lower
      before refusal.UnknownOccurrence less = known
      before refusal.WrongStatus less = absurd (omega (arith, less))
      before refusal.Running less = absurd (omega (arith, less))
      before r less = tt

  module _ (other : s ≢ occurrence.Deleted) where
    pub running_at_deletion : (o : OpKey) × IsItsUnderWay P c o → IsLeastRefusal (MayBeDeleted P c) refusal.Running
    running_at_deletion (o, (its, under_way)) = (λ none. none o its under_way, before)
      where
        before : (lower : Refusal) → number_of lower < 17 → MayBeDeleted P c lower
        before refusal.UnknownOccurrence less = known
        before refusal.WrongStatus less = not_all_deleted P c s has other
        before refusal.Running less = absurd (omega (arith, less))
        before r less = tt

    pub deleted : ¬ ((o : OpKey) × IsItsUnderWay P c o) → NoneRefuses (MayBeDeleted P c)
    deleted none refusal.UnknownOccurrence = known
    deleted none refusal.WrongStatus = not_all_deleted P c s has other
    deleted none refusal.Running = λ o its under_way. none (o, (its, under_way))
    deleted none r = tt

-- ---- special resources and open intervals

module _ (P : Contents) (n : Name) where
  pub available : contains_key P.resources n ≡ true → NoneRefuses (MayBeSetAvailable P n)
  available known refusal.UnknownResource = known
  available known r = tt

  module _ (items : List OpenInterval) (known : contains_key P.workstations n ≡ true) where
    pub open_by : NoneRefuses (MayBeTaken items) → NoneRefuses (MayBeOpenBy P n items)
    open_by taken refusal.UnknownWorkstation = known
    open_by taken refusal.Limit = taken refusal.Limit
    open_by taken refusal.BadPlan = taken refusal.BadPlan
    open_by taken r = tt

    open_below : (r : Refusal) → ((s : Refusal) → number_of s < number_of r → MayBeTaken items s) → (lower : Refusal) → number_of lower < number_of r → MayBeOpenBy P n items lower
    open_below r least refusal.UnknownWorkstation less = known
    open_below r least refusal.Limit less = least refusal.Limit less
    open_below r least refusal.BadPlan less = least refusal.BadPlan less
    open_below r least lower less = tt

    pub not_open_by : (r : Refusal) → IsLeastRefusal (MayBeTaken items) r → IsLeastRefusal (MayBeOpenBy P n items) r
    not_open_by refusal.Limit h = (h.0, open_below refusal.Limit h.1)
    not_open_by refusal.BadPlan h = (h.0, open_below refusal.BadPlan h.1)
    not_open_by r h = absurd (h.0 tt)
