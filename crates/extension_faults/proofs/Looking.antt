-- What is looked up in the plan shows what is so there.
use Rattle.std.proofs.Common.{◌≡◌, ◌↔◌, inl, inr, refl, sym, subst, ◌∙◌, ◌<◌, Bool, true, false, not, IsTrue, true≢false, ℕ, Option, Some, None}
use Rattle.std.proofs.lemmas.Option.{none-some, same_Some}
use Rattle.std.specs.FinMap.{contains_key}
use Rattle.plan_basics.specs.declared.keys.OccKey.{OccKey}
use Rattle.plan_basics.specs.declared.keys.OpKey.{OpKey}
use Rattle.plan_drafts.specs.plan_model.specs.Contents.{Contents, IsInPlan}
use Rattle.plan_drafts.specs.plan_model.specs.Status.{HasOccurrenceStatus, HasStatus, IsWaitingOrReady}
use Rattle.plan_drafts.specs.plan_model.specs.Valid.{IsValid}
use Rattle.plan_drafts.specs.plan_model.specs.declared.Stock.{Stock}
use Rattle.plan_drafts.specs.status_rules.specs.Classes.{is_over, is_waiting_or_ready}
use Rattle.plan_drafts.specs.status_rules.specs.declared.OccStatus.{OccStatus}
use Rattle.plan_drafts.specs.status_rules.specs.declared.OccStatus.TheVariants as occurrence
use Rattle.plan_drafts.specs.status_rules.specs.declared.Status.{Status}
use Rattle.plan_drafts.specs.status_rules.specs.declared.Status.TheVariants as status
use Rattle.plan_reasons.specs.plan_core.specs.derived_figures.specs.Reports.{IsOfStatus}
use Rattle.plan_reasons.specs.plan_core.specs.plan_laws.proofs.Classes.{waits_by, waits_told}
use Rattle.plan_reasons.specs.plan_core.specs.plan_laws.proofs.Standing.{one_status}
use Rattle.plan_reasons.specs.plan_core.specs.plan_laws.proofs.Waiting.{one_occurrence_status}
use Rattle.plan_reasons.specs.plan_core.specs.plan_records.specs.Changes.{IsOver}
use Rattle.extension_faults.specs.Beside.{Stays, is_deleted}

-- ---- occurrences
-- an occurrence of another status is neither complete nor deleted
not_over : (P : Contents) (c : OccKey) (s : OccStatus) → HasOccurrenceStatus P c s → (s ≡ occurrence.Complete → ⊥) → (s ≡ occurrence.Deleted → ⊥) → ¬ IsOver P c
not_over P c s has complete deleted (inl over) = complete (one_occurrence_status P c s occurrence.Complete has over)
not_over P c s has complete deleted (inr over) = deleted (one_occurrence_status P c s occurrence.Deleted has over)

pub stays_is : (P : Contents) (c : OccKey) (s : OccStatus) → contains_key P.occurrences c ≡ true → HasOccurrenceStatus P c s → IsTrue (not (is_over s)) ↔ Stays P c
stays_is P c occurrence.Complete there has = (λ e. absurd (true≢false (sym e)), λ h. absurd (h.1 (inl has)))
stays_is P c occurrence.Deleted there has = (λ e. absurd (true≢false (sym e)), λ h. absurd (h.1 (inr has)))
stays_is P c s there has = (λ _. (there, not_over P c s has (λ e. cc) (λ e. cc)), λ _. refl)

-- ---- operations
-- it has this status alone
pub alone_in : (P : Contents) → IsValid P → (o : OpKey) (s : Status) → IsInPlan P o → HasStatus P o s → IsOfStatus P o s
alone_in P valid o s known has = record { known = known; status = has; alone = λ t h. one_status P valid.acyclic o t s h has }

pub deleted_is : (P : Contents) (o : OpKey) (s : Status) → IsOfStatus P o s → IsTrue (is_deleted s) ↔ HasStatus P o status.Deleted
deleted_is P o status.Deleted is = (λ _. is.status, λ _. refl)
deleted_is P o s is = (λ e. absurd (true≢false (sym e)), λ h. let e = is.alone status.Deleted h in absurd (cc e))

pub waiting_is : (P : Contents) (o : OpKey) (s : Status) → IsOfStatus P o s → IsTrue (is_waiting_or_ready s) ↔ IsWaitingOrReady P o
waiting_is P o s is = (λ e. waits_by P o s is.status e, λ h. waits_told P o s is.alone h)

-- what isn't there has no status
pub no_status : (P : Contents) (o : OpKey) → ¬ IsInPlan P o → (s : Status) → ¬ HasStatus P o s
no_status P o none s h = none (h.0, h.1, tt)

pub nor_waits : (P : Contents) (o : OpKey) → ¬ IsInPlan P o → ¬ IsWaitingOrReady P o
nor_waits P o none (inl h) = no_status P o none status.Waiting h
nor_waits P o none (inr (inl h)) = no_status P o none status.Arriving h
nor_waits P o none (inr (inr (inl h))) = no_status P o none status.ReadyAfterNonreporting h
nor_waits P o none (inr (inr (inr h))) = no_status P o none status.Ready h

pub false_is : {X : Type 0} → ¬ X → IsTrue false ↔ X
false_is none = (λ h. absurd (true≢false (sym h)), λ x. absurd (none x))

-- ---- special resources
-- in what was found there is less than an amount
module _ (there : Option Stock) (amount : ℕ) where
  abbrev pub IsShort : Type 0
  IsShort = (stock : Stock) × (there ≡ Some stock) × (stock.quantity < amount)

  pub short_is : (stock : Stock) → there ≡ Some stock → (b : Bool) → IsTrue b ↔ (stock.quantity < amount) → IsTrue b ↔ IsShort
  short_is stock is b less = (
    λ h. (stock, is, less.0 h),
    λ h. less.1 (subst (λ (s : Stock). s.quantity < amount) (same_Some h.0 stock (sym h.1 ∙ is)) h.2),
  )

  pub never_short : there ≡ None → ¬ IsShort
  never_short none h = none-some h.0 (sym none ∙ h.1)

-- ---- two things, the first of which is so
pub both_is : {X Y : Type 0} {b : Bool} → X → IsTrue b ↔ Y → IsTrue b ↔ (X × Y)
both_is x y = (λ h. (x, y.0 h), λ h. y.1 h.1)
