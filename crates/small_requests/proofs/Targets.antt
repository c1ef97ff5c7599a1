-- What a report or a command names is in the plan, and isn't satisfied.
use Rattle.std.proofs.Common.{◌≡◌, ◌≢◌, ◌⊎◌, inl, inr, refl, sym, ap, subst, ◌∙◌, ℕ, false, true≢false, Option, Some, None, option_map}
use Rattle.std.proofs.lemmas.Option.{none-some, same_Some}
use Rattle.std.specs.FinMap.{get}
use Rattle.plan_basics.specs.Refusals.{NoneRefuses}
use Rattle.plan_basics.specs.declared.Attr.{Attr}
use Rattle.plan_basics.specs.declared.Attr.TheVariants as attribute
use Rattle.plan_basics.specs.declared.Refusal.TheVariants as refusal
use Rattle.plan_basics.specs.declared.keys.OpKey.{OpKey}
use Rattle.status_rules.specs.Classes.{is_satisfied}
use Rattle.status_rules.specs.LeastSet.{by_given}
use Rattle.status_rules.specs.declared.Mark.TheVariants as mark
use Rattle.status_rules.specs.declared.Status.{Status}
use Rattle.status_rules.specs.declared.Status.TheVariants as status
use Rattle.plan_drafts.proofs.Tables.{is_found}
use Rattle.plan_model.specs.Contents.{Contents, IsInPlan, Operation, attribute_at}
use Rattle.plan_model.specs.Status.{HasStatus, IsReady, IsSatisfied, IsUnderWay, IsWaitingOrReady}
use Rattle.plan_model.specs.Valid.{IsValid}
use Rattle.plan_records.specs.Acceptance.{MayBeDone, MayBeEnded, MayBeStarted}
use Rattle.plan_records.specs.declared.What.{What}
use Rattle.plan_records.specs.declared.What.TheVariants as what
use Rattle.plan_checks.specs.plan_laws.proofs.Classes.{satisfied_decides}
use Rattle.plan_checks.specs.plan_laws.proofs.Kept.{ready_not_satisfied}
use Rattle.plan_checks.specs.plan_laws.proofs.Tables.{by_mark_of}
use Rattle.small_requests.specs.RequestEdits.{Edits, IsRerun, target_of}
use Rattle.small_requests.specs.KeptLaws.{EditedAreUnsatisfied}

-- ---- it is in the plan

pub target_in_plan : (P : Contents) (m : ℕ) (w : What) (o : OpKey) → target_of w ≡ Some o → NoneRefuses (MayBeDone P m w) → IsInPlan P o
target_in_plan P m (what.Started q) o is clear = subst (IsInPlan P) (same_Some q o is) (clear refusal.UnknownOperation)
target_in_plan P m (what.Ended q) o is clear = subst (IsInPlan P) (same_Some q o is) (clear refusal.UnknownOperation)
target_in_plan P m (what.Error q code) o is clear = subst (IsInPlan P) (same_Some q o is) (clear refusal.UnknownOperation)
target_in_plan P m (what.Interrupted q) o is clear = subst (IsInPlan P) (same_Some q o is) (clear refusal.UnknownOperation)
target_in_plan P m (what.Unknown q) o is clear = subst (IsInPlan P) (same_Some q o is) (clear refusal.UnknownOperation)
target_in_plan P m (what.Hold q) o is clear = subst (IsInPlan P) (same_Some q o is) (clear refusal.UnknownOperation)
target_in_plan P m (what.Release q) o is clear = subst (IsInPlan P) (same_Some q o is) (clear refusal.UnknownOperation)
target_in_plan P m (what.Nop q) o is clear = subst (IsInPlan P) (same_Some q o is) (clear refusal.UnknownOperation)
target_in_plan P m (what.Unnop q) o is clear = subst (IsInPlan P) (same_Some q o is) (clear refusal.UnknownOperation)
target_in_plan P m (what.Complete q) o is clear = subst (IsInPlan P) (same_Some q o is) (clear refusal.UnknownOperation)
target_in_plan P m w o is clear = absurd (none-some o is)

-- ---- it isn't satisfied

module _ (P : Contents) (o : OpKey) where
  by_status : (s : Status) → HasStatus P o s → is_satisfied s ≡ false → ¬ IsSatisfied P o
  by_status s has never satisfied = true≢false (sym ((satisfied_decides P o s has).1 satisfied) ∙ never)

  waiting_not_satisfied : IsWaitingOrReady P o → ¬ IsSatisfied P o
  waiting_not_satisfied (inl waiting) = by_status status.Waiting waiting refl
  waiting_not_satisfied (inr ready) = ready_not_satisfied P o ready

  under_way_not_satisfied : IsUnderWay P o → ¬ IsSatisfied P o
  under_way_not_satisfied (inl started) = by_status status.Started started refl
  under_way_not_satisfied (inr (inl interrupted)) = by_status status.Interrupted interrupted refl
  under_way_not_satisfied (inr (inr undecided)) = by_status status.Undecided undecided refl

  running_not_satisfied : HasStatus P o status.Started ⊎ HasStatus P o status.Undecided → ¬ IsSatisfied P o
  running_not_satisfied (inl started) = by_status status.Started started refl
  running_not_satisfied (inr undecided) = by_status status.Undecided undecided refl

  completable_not_satisfied : IsReady P o ⊎ IsUnderWay P o ⊎ HasStatus P o status.Error → ¬ IsSatisfied P o
  completable_not_satisfied (inl ready) = ready_not_satisfied P o ready
  completable_not_satisfied (inr (inl under_way)) = under_way_not_satisfied under_way
  completable_not_satisfied (inr (inr error)) = by_status status.Error error refl

  module _ (valid : IsValid P) (op : Operation) (is : get P.operations o ≡ Some op) where
    -- its workstation is in the plan
    no_attribute : None ≡ attribute_at P op.workstation → ⊥
    no_attribute at =
        let found = is_found (get P.workstations op.workstation) (valid.have_workstations o op is) in
        none-some found.0.attribute (at ∙ ap (option_map (λ z. z.attribute)) found.1)

    started_not_satisfied : (m : ℕ) (a : Option Attr) → a ≡ attribute_at P op.workstation → MayBeStarted P m o op a refusal.WrongStatus → MayBeStarted P m o op a refusal.WrongWorkstation → ¬ IsSatisfied P o
    started_not_satisfied m (Some attribute.Automatic) at s w = by_status status.Started (by_mark_of P o op mark.Named status.Started is s refl) refl
    started_not_satisfied m (Some attribute.StartAndCompletion) at (inl ready) w = ready_not_satisfied P o ready
    started_not_satisfied m (Some attribute.StartAndCompletion) at (inr interrupted) w = by_status status.Interrupted interrupted.0 refl
    started_not_satisfied m (Some attribute.CompletionOnly) at s w = absurd w
    started_not_satisfied m (Some attribute.Nonreporting) at s w = absurd w
    started_not_satisfied m None at s w = absurd (no_attribute at)

    ended_not_satisfied : (a : Option Attr) → a ≡ attribute_at P op.workstation → MayBeEnded P o op a refusal.WrongStatus → MayBeEnded P o op a refusal.WrongWorkstation → ¬ IsSatisfied P o
    ended_not_satisfied (Some attribute.Automatic) at s w = running_not_satisfied s
    ended_not_satisfied (Some attribute.StartAndCompletion) at s w = running_not_satisfied s
    ended_not_satisfied (Some attribute.CompletionOnly) at s w = ready_not_satisfied P o s
    ended_not_satisfied (Some attribute.Nonreporting) at s w = absurd w
    ended_not_satisfied None at s w = absurd (no_attribute at)

module _ (P : Contents) (valid : IsValid P) (m : ℕ) where
  ended : (w : What) (q : OpKey) → ((op : Operation) → get P.operations q ≡ Some op → MayBeEnded P q op (attribute_at P op.workstation) refusal.WrongStatus × MayBeEnded P q op (attribute_at P op.workstation) refusal.WrongWorkstation) → IsInPlan P q → ¬ IsSatisfied P q
  ended w q lines known = let told = lines known.0 known.1 in ended_not_satisfied P q valid known.0 known.1 (attribute_at P known.0.workstation) refl told.0 told.1

  own : (w : What) (q : OpKey) → target_of w ≡ Some q → NoneRefuses (MayBeDone P m w) → ¬ IsSatisfied P q
  own (what.Started p) q is clear =
      let known = clear refusal.UnknownOperation in
      let not = started_not_satisfied P p valid known.0 known.1 m (attribute_at P known.0.workstation) refl (clear refusal.WrongStatus known.0 known.1) (clear refusal.WrongWorkstation known.0 known.1) in
      subst (λ z. ¬ IsSatisfied P z) (same_Some p q is) not
  own (what.Ended p) q is clear = subst (λ z. ¬ IsSatisfied P z) (same_Some p q is) (ended (what.Ended p) p (λ op in_P. (clear refusal.WrongStatus op in_P, clear refusal.WrongWorkstation op in_P)) (clear refusal.UnknownOperation))
  own (what.Error p code) q is clear = subst (λ z. ¬ IsSatisfied P z) (same_Some p q is) (ended (what.Error p code) p (λ op in_P. (clear refusal.WrongStatus op in_P, clear refusal.WrongWorkstation op in_P)) (clear refusal.UnknownOperation))
  own (what.Interrupted p) q is clear = let known = clear refusal.UnknownOperation in subst (λ z. ¬ IsSatisfied P z) (same_Some p q is) (by_status P p status.Started (clear refusal.WrongStatus known.0 known.1) refl)
  own (what.Unknown p) q is clear = let known = clear refusal.UnknownOperation in subst (λ z. ¬ IsSatisfied P z) (same_Some p q is) (by_status P p status.Started (clear refusal.WrongStatus known.0 known.1) refl)
  own (what.Hold p) q is clear = let known = clear refusal.UnknownOperation in subst (λ z. ¬ IsSatisfied P z) (same_Some p q is) (waiting_not_satisfied P p (clear refusal.WrongStatus known.0 known.1))
  own (what.Release p) q is clear = let known = clear refusal.UnknownOperation in subst (λ z. ¬ IsSatisfied P z) (same_Some p q is) (waiting_not_satisfied P p (clear refusal.WrongStatus known.0 known.1))
  own (what.Nop p) q is clear = let known = clear refusal.UnknownOperation in subst (λ z. ¬ IsSatisfied P z) (same_Some p q is) (waiting_not_satisfied P p (clear refusal.WrongStatus known.0 known.1))
  own (what.Unnop p) q is clear = let known = clear refusal.UnknownOperation in subst (λ z. ¬ IsSatisfied P z) (same_Some p q is) (waiting_not_satisfied P p (clear refusal.WrongStatus known.0 known.1))
  own (what.Complete p) q is clear = let known = clear refusal.UnknownOperation in subst (λ z. ¬ IsSatisfied P z) (same_Some p q is) (completable_not_satisfied P p (clear refusal.WrongStatus known.0 known.1))
  own w q is clear = absurd (none-some q is)

pub target_not_satisfied : (P : Contents) → IsValid P → (m : ℕ) (w : What) (o : OpKey) → target_of w ≡ Some o → NoneRefuses (MayBeDone P m w) → ¬ IsSatisfied P o
target_not_satisfied = own

-- so that it isn't deleted
pub not_deleted : (P : Contents) (o : OpKey) (op : Operation) → get P.operations o ≡ Some op → ¬ IsSatisfied P o → op.mark ≢ mark.Deleted
not_deleted P o op is not deleted = not (by_given (op, is, inr deleted))

-- a request but a rerun edits its target
pub edits_target : (P : Contents) (w : What) (q : OpKey) → ¬ IsRerun w → Edits P w q → target_of w ≡ Some q
edits_target P (what.Rerun o) q never edits = absurd (never tt)
edits_target P w q never edits = edits

pub edited_are_unsatisfied : EditedAreUnsatisfied
edited_are_unsatisfied P w m places valid never clear edited i o op has at = target_not_satisfied P valid m w o (edits_target P w o never ((edited.each i o op at).0 has)) clear
