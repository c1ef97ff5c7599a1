-- The status of an occurrence by the numbers of its operations.
use Rattle.std.proofs.Common.{◌≡◌, ◌⊎◌, ◌↔◌, inl, inr, ℕ, ◌<◌}
use Rattle.plan_basics.specs.declared.keys.OccKey.{OccKey}
use Rattle.plan_basics.specs.declared.keys.OpKey.{OpKey}
use Rattle.plan_model.specs.Contents.{Contents, IsInPlan}
use Rattle.plan_model.specs.Status.{EachOperation, HasOccurrenceStatus, OccurrenceCase, SomeOperation}
use Rattle.plan_laws.specs.plan_records.specs.Rows.{IsCount}
use Rattle.plan_status.proofs.Counting.{each_counted, some_counted}
use Rattle.plan_status.specs.Standings.{BelongsWithStatus, IsTally}
use Rattle.status_rules.specs.Cases.{CountsCase, IsStatusOfCounts}
use Rattle.status_rules.specs.declared.Counts.{Counts}
use Rattle.status_rules.specs.declared.OccStatus.{OccStatus}
use Rattle.status_rules.specs.declared.OccStatus.TheVariants as occurrence
use Rattle.status_rules.specs.declared.Status.{Status}
use Rattle.status_rules.specs.declared.Status.TheVariants as status

-- o is an operation of the occurrence
abbrev pub IsOfIts : Contents → OccKey → OpKey → Type 0
IsOfIts P c o = (o.occurrence ≡ c) × IsInPlan P o

-- and is started or interrupted
abbrev pub IsStarted : Contents → OccKey → OpKey → Type 0
IsStarted P c o = BelongsWithStatus P c status.Started o ⊎ BelongsWithStatus P c status.Interrupted o

module _ (P : Contents) (c : OccKey) where
  each_has : (s : Status) (m n : ℕ) → IsCount (BelongsWithStatus P c s) m → IsCount (IsOfIts P c) n → (m ≡ n) ↔ EachOperation P c s
  each_has s m n x y =
      let e = each_counted (BelongsWithStatus P c s) (IsOfIts P c) m n x y (λ o h. (h.0, (h.1.0, h.1.1, tt))) in
      (λ same o of there. (e.0 same o (of, there)).1, λ each. e.1 (λ o h. (h.0, each o h.0 h.1)))

  some_has : (s : Status) (n : ℕ) → IsCount (BelongsWithStatus P c s) n → (0 < n) ↔ SomeOperation P c s
  some_has s n x =
      let e = some_counted (BelongsWithStatus P c s) n x in
      (λ h. let r = e.0 h in (r.0, r.1.0, r.1.1), λ h. e.1 (h.0, (h.1, h.2)))

  some_started : (n : ℕ) → IsCount (IsStarted P c) n → (0 < n) ↔ (SomeOperation P c status.Started ⊎ SomeOperation P c status.Interrupted)
  some_started n x =
      let e = some_counted (IsStarted P c) n x in (
        λ h. let r = e.0 h in elim r.1 [ inl a ↦ inl (r.0, a.0, a.1) | inr b ↦ inr (r.0, b.0, b.1) ],
        elim [ inl a ↦ e.1 (a.0, inl (a.1, a.2)) | inr b ↦ e.1 (b.0, inr (b.1, b.2)) ],
      )

  module _ (n : Counts) (tally : IsTally P c n) where
    case_counted : (s : OccStatus) → CountsCase n s ↔ OccurrenceCase P c s
    case_counted occurrence.Deleted = each_has status.Deleted n.deleted n.all tally.deleted tally.all
    case_counted occurrence.Error = some_has status.Error n.error tally.error
    case_counted occurrence.Undecided = some_has status.Undecided n.undecided tally.undecided
    case_counted occurrence.Complete = each_has status.Complete n.complete n.all tally.complete tally.all
    case_counted occurrence.Started =
        let a = some_started n.started tally.started in
        let b = some_has status.Complete n.complete tally.complete in (
          elim [ inl h ↦ elim (a.0 h) [ inl x ↦ inl x | inr y ↦ inr (inl y) ] | inr h ↦ inr (inr (b.0 h)) ],
          elim [ inl x ↦ inl (a.1 (inl x)) | inr (inl y) ↦ inl (a.1 (inr y)) | inr (inr z) ↦ inr (b.1 z) ],
        )
    case_counted occurrence.Waiting = (λ h. tt, λ h. tt)

    pub status_counted : (s : OccStatus) → IsStatusOfCounts n s → HasOccurrenceStatus P c s
    status_counted s first = ((case_counted s).0 first.0, λ t less h. first.1 t less ((case_counted t).1 h))
