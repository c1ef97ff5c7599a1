-- What a small request writes of its target is another mark than before, and one, or another flag.
use Rattle.std.proofs.Common.{◌≡◌, ◌≢◌, ◌⊎◌, inl, inr, refl, sym, ◌∙◌, ap, subst, ℕ, Bool, true, false, List, [], Option, Some, None, option_map, MatchOption, Contains}
use Rattle.std.proofs.lemmas.Option.{none-some, same_Some}
use Rattle.std.specs.FinMap.{get}
use Rattle.std.specs.List.Sorted.{IsStrictlySortedBy}
use Rattle.plan_basics.specs.Keys.{operation_cmp_total, operation_cmp-IsAntisymmetric}
use Rattle.plan_basics.specs.Refusals.{NoneRefuses}
use Rattle.plan_basics.specs.declared.Attr.{Attr}
use Rattle.plan_basics.specs.declared.Attr.TheVariants as attribute
use Rattle.plan_basics.specs.declared.Refusal.TheVariants as refusal
use Rattle.plan_basics.specs.declared.keys.OpKey.{OpKey}
use Rattle.small_requests.specs.RequestEdits.{Edits, IsEditedAt, IsRerun, StandsAt, target_of}
use Rattle.plan_drafts.proofs.EntryRows.{row_in}
use Rattle.plan_drafts.proofs.Lists.{contains_none}
use Rattle.plan_drafts.proofs.Tables.{is_found}
use Rattle.plan_model.specs.Contents.{Contents, Operation, attribute_at}
use Rattle.plan_model.specs.Ready.{with_mark}
use Rattle.plan_model.specs.Status.{HasStatus, IsReady, UnmarkedStatus}
use Rattle.plan_model.specs.Valid.{IsSound}
use Rattle.plan_checks.specs.plan_laws.proofs.Flags.{now_is}
use Rattle.plan_checks.specs.plan_laws.proofs.Kept.{ready_unmarked}
use Rattle.small_requests.specs.Anew.{IsFlaggedSo, mark_of}
use Rattle.small_requests.specs.StepLooks.{AreWorkedAt, IsMarkedAnew}
use Rattle.plan_records.specs.Acceptance.{MayBeCompleted, MayBeDone, MayBeEnded, MayBeStarted}
use Rattle.plan_records.specs.Changes.{Changes, is_at, marked, revised}
use Rattle.plan_records.specs.declared.What.{What}
use Rattle.plan_records.specs.declared.What.TheVariants as what
use Rattle.status_rules.specs.Table.{marked_status}
use Rattle.status_rules.specs.declared.Mark.{Mark}
use Rattle.status_rules.specs.declared.Mark.TheVariants as mark
use Rattle.status_rules.specs.declared.Status.{Status}
use Rattle.status_rules.specs.declared.Status.TheVariants as status

-- ---- the mark that is written is another than the one that stands

module _ (P : Contents) (o : OpKey) (op : Operation) (is : get P.operations o ≡ Some op) where
  -- an operation with one status has no mark that decides another
  other_than : (s t : Status) (M : Mark) → marked_status M ≡ Some t → s ≢ t → HasStatus P o s → M ≢ op.mark
  other_than s t M told apart h same =
      let known : h.0 ≡ op = same_Some h.0 op (sym h.1 ∙ is) in
      apart (subst (λ x. MatchOption x (UnmarkedStatus P o s) (λ y. s ≡ y)) (ap (λ x. marked_status x.mark) known ∙ ap marked_status (sym same) ∙ told) h.2)

  was_ready : (M : Mark) → M ≢ mark.Unmarked → IsReady P o → M ≢ op.mark
  was_ready M apart ready same = apart (same ∙ ready_unmarked P o op is ready)

  module _ (sound : IsSound P) where
    -- its workstation is in the plan
    no_attribute : None ≡ attribute_at P op.workstation → ⊥
    no_attribute at =
        let found = is_found (get P.workstations op.workstation) (sound.valid.have_workstations o op is) in
        none-some found.0.attribute (at ∙ ap (option_map (λ z. z.attribute)) found.1)

    started : (m : ℕ) (a : Option Attr) → a ≡ attribute_at P op.workstation → MayBeStarted P m o op a refusal.WrongStatus → MayBeStarted P m o op a refusal.WrongWorkstation → mark.Running ≢ op.mark
    started m (Some attribute.Automatic) at s w = λ same. let e : mark.Running ≡ mark.Named = same ∙ s in cc
    started m (Some attribute.StartAndCompletion) at (inl ready) w = was_ready mark.Running (λ e. cc) ready
    started m (Some attribute.StartAndCompletion) at (inr interrupted) w = other_than status.Interrupted status.Started mark.Running refl (λ e. cc) interrupted.0
    started m (Some attribute.CompletionOnly) at s w = absurd w
    started m (Some attribute.Nonreporting) at s w = absurd w
    started m None at s w = absurd (no_attribute at)

    -- an end or an error
    ended : (M : Mark) (t : Status) → marked_status M ≡ Some t → status.Started ≢ t → status.Undecided ≢ t → M ≢ mark.Unmarked → (a : Option Attr) → a ≡ attribute_at P op.workstation → MayBeEnded P o op a refusal.WrongStatus → MayBeEnded P o op a refusal.WrongWorkstation → M ≢ op.mark
    ended M t told from_started from_undecided none (Some attribute.Automatic) at (inl s) w = other_than status.Started t M told from_started s
    ended M t told from_started from_undecided none (Some attribute.Automatic) at (inr u) w = other_than status.Undecided t M told from_undecided u
    ended M t told from_started from_undecided none (Some attribute.StartAndCompletion) at (inl s) w = other_than status.Started t M told from_started s
    ended M t told from_started from_undecided none (Some attribute.StartAndCompletion) at (inr u) w = other_than status.Undecided t M told from_undecided u
    ended M t told from_started from_undecided none (Some attribute.CompletionOnly) at ready w = was_ready M none ready
    ended M t told from_started from_undecided none (Some attribute.Nonreporting) at s w = absurd w
    ended M t told from_started from_undecided none None at s w = absurd (no_attribute at)

  completed : MayBeCompleted P o op refusal.WrongStatus → mark.Done ≢ op.mark
  completed (inl ready) = was_ready mark.Done (λ e. cc) ready
  completed (inr (inl (inl s))) = other_than status.Started status.Complete mark.Done refl (λ e. cc) s
  completed (inr (inl (inr (inl i)))) = other_than status.Interrupted status.Complete mark.Done refl (λ e. cc) i
  completed (inr (inl (inr (inr u)))) = other_than status.Undecided status.Complete mark.Done refl (λ e. cc) u
  completed (inr (inr e)) = other_than status.Error status.Complete mark.Done refl (λ x. cc) e

module _ (P : Contents) (sound : IsSound P) (m : ℕ) where
  -- the mark that a request writes, in whose way nothing stands, is another than its target's, and is one
  pub mark_is_new : (w : What) (o : OpKey) (op : Operation) (M : Mark) → NoneRefuses (MayBeDone P m w) → target_of w ≡ Some o → get P.operations o ≡ Some op → mark_of w ≡ Some M → (M ≢ op.mark) × (M ≢ mark.Unmarked)
  mark_is_new (what.Started q) o op M clear to is writes =
      let here = subst (λ z. get P.operations z ≡ Some op) (sym (same_Some q o to)) is in
      subst (λ z. (z ≢ op.mark) × (z ≢ mark.Unmarked)) (same_Some mark.Running M writes)
      (started P q op here sound m (attribute_at P op.workstation) refl (clear refusal.WrongStatus op here) (clear refusal.WrongWorkstation op here), λ e. cc)
  mark_is_new (what.Ended q) o op M clear to is writes =
      let here = subst (λ z. get P.operations z ≡ Some op) (sym (same_Some q o to)) is in
      subst (λ z. (z ≢ op.mark) × (z ≢ mark.Unmarked)) (same_Some mark.Done M writes)
      (ended P q op here sound mark.Done status.Complete refl (λ e. cc) (λ e. cc) (λ e. cc) (attribute_at P op.workstation) refl (clear refusal.WrongStatus op here) (clear refusal.WrongWorkstation op here), λ e. cc)
  mark_is_new (what.Error q code) o op M clear to is writes =
      let here = subst (λ z. get P.operations z ≡ Some op) (sym (same_Some q o to)) is in
      subst (λ z. (z ≢ op.mark) × (z ≢ mark.Unmarked)) (same_Some (mark.Error code) M writes)
      (ended P q op here sound (mark.Error code) status.Error refl (λ e. cc) (λ e. cc) (λ e. cc) (attribute_at P op.workstation) refl (clear refusal.WrongStatus op here) (clear refusal.WrongWorkstation op here), λ e. cc)
  mark_is_new (what.Interrupted q) o op M clear to is writes =
      let here = subst (λ z. get P.operations z ≡ Some op) (sym (same_Some q o to)) is in
      subst (λ z. (z ≢ op.mark) × (z ≢ mark.Unmarked)) (same_Some mark.Interrupted M writes)
      (other_than P q op here status.Started status.Interrupted mark.Interrupted refl (λ e. cc) (clear refusal.WrongStatus op here), λ e. cc)
  mark_is_new (what.Unknown q) o op M clear to is writes =
      let here = subst (λ z. get P.operations z ≡ Some op) (sym (same_Some q o to)) is in
      subst (λ z. (z ≢ op.mark) × (z ≢ mark.Unmarked)) (same_Some mark.Undecided M writes)
      (other_than P q op here status.Started status.Undecided mark.Undecided refl (λ e. cc) (clear refusal.WrongStatus op here), λ e. cc)
  mark_is_new (what.Complete q) o op M clear to is writes =
      let here = subst (λ z. get P.operations z ≡ Some op) (sym (same_Some q o to)) is in
      subst (λ z. (z ≢ op.mark) × (z ≢ mark.Unmarked)) (same_Some mark.Done M writes)
      (completed P q op here (clear refusal.WrongStatus op here), λ e. cc)
  mark_is_new w o op M clear to is writes = absurd (none-some M writes)

  -- ---- so the operation is marked anew

  module _ (o : OpKey) (before after : Operation) (is : get P.operations o ≡ Some before) where
    -- what is found where one operation was made anew
    made_of : (f : Operation → Operation) (Q : Contents) (q : OpKey) → Some q ≡ Some o → Q ≡ revised (is_at q) f P → get Q.operations o ≡ Some after → f before ≡ after
    made_of f Q q to change now =
        now_is P sound o before is f after (subst (λ z. get (revised (is_at z) f P).operations o ≡ Some after) (same_Some q o to) (subst (λ R. get R.operations o ≡ Some after) change now))

    by_mark : (w : What) (M : Mark) (Q : Contents) (q : OpKey) → NoneRefuses (MayBeDone P m w) → target_of w ≡ Some o → mark_of w ≡ Some M → Some q ≡ Some o → Q ≡ marked q M P → get Q.operations o ≡ Some after → IsMarkedAnew before after
    by_mark w M Q q clear target writes to change now =
        let new = mark_is_new w o before M clear target is writes in
        let made : M ≡ after.mark = ap (λ z. z.mark) (made_of (with_mark M) Q q to change now) in
        inl (λ e. new.0 (made ∙ e), λ e. new.1 (made ∙ e))

    by_held : (b : Bool) (Q : Contents) (q : OpKey) → b ≢ before.held → Some q ≡ Some o → Q ≡ revised (is_at q) (λ op. record op { held = b }) P → get Q.operations o ≡ Some after → IsMarkedAnew before after
    by_held b Q q apart to change now =
        let made : b ≡ after.held = ap (λ z. z.held) (made_of (λ op. record op { held = b }) Q q to change now) in
        inr (inl (λ e. apart (made ∙ e)))

    by_nop : (b : Bool) (Q : Contents) (q : OpKey) → b ≢ before.nop → Some q ≡ Some o → Q ≡ revised (is_at q) (λ op. record op { nop = b }) P → get Q.operations o ≡ Some after → IsMarkedAnew before after
    by_nop b Q q apart to change now =
        let made : b ≡ after.nop = ap (λ z. z.nop) (made_of (λ op. record op { nop = b }) Q q to change now) in
        inr (inr (λ e. apart (made ∙ e)))

    -- a request in whose way nothing stands reaches what it edits in a rerun, or marks it anew, unless the flag that it writes stands so already
    pub anew_at : (w : What) (Q : Contents) → NoneRefuses (MayBeDone P m w) → Changes P w Q → Edits P w o → ¬ IsFlaggedSo w before → get Q.operations o ≡ Some after → IsRerun w ⊎ IsMarkedAnew before after
    anew_at (what.Rerun q) Q clear change to fresh now = inl tt
    anew_at (what.Started q) Q clear change to fresh now = inr (by_mark (what.Started q) mark.Running Q q clear to refl to change now)
    anew_at (what.Ended q) Q clear change to fresh now = inr (by_mark (what.Ended q) mark.Done Q q clear to refl to change now)
    anew_at (what.Error q code) Q clear change to fresh now = inr (by_mark (what.Error q code) (mark.Error code) Q q clear to refl to change now)
    anew_at (what.Interrupted q) Q clear change to fresh now = inr (by_mark (what.Interrupted q) mark.Interrupted Q q clear to refl to change now)
    anew_at (what.Unknown q) Q clear change to fresh now = inr (by_mark (what.Unknown q) mark.Undecided Q q clear to refl to change now)
    anew_at (what.Complete q) Q clear change to fresh now = inr (by_mark (what.Complete q) mark.Done Q q clear to refl to change now)
    anew_at (what.Hold q) Q clear change to fresh now = inr (by_held true Q q (λ e. fresh (sym e)) to change now)
    anew_at (what.Release q) Q clear change to fresh now = inr (by_held false Q q (λ e. fresh (sym e)) to change now)
    anew_at (what.Nop q) Q clear change to fresh now = inr (by_nop true Q q (λ e. fresh (sym e)) to change now)
    anew_at (what.Unnop q) Q clear change to fresh now = inr (by_nop false Q q (λ e. fresh (sym e)) to change now)
    anew_at w Q clear change to fresh now = absurd (none-some o to)

  -- what it edits is worked at
  pub worked_at : (w : What) (Q : Contents) (places : List ℕ) → NoneRefuses (MayBeDone P m w) → Changes P w Q → IsEditedAt P w places → ((i : ℕ) (o : OpKey) (op : Operation) → Contains places i → StandsAt P i o op → ¬ IsFlaggedSo w op) → AreWorkedAt P Q w places
  worked_at w Q places clear change edited fresh = record {
    ascend = edited.ascend;
    within = edited.within;
    edited = λ i o op there at. (edited.each i o op at).0 there;
    anew = λ i o before after there at now.
        anew_at o before after (row_in operation_cmp_total operation_cmp-IsAntisymmetric P.operations i o before at) w Q clear change ((edited.each i o before at).0 there) (fresh i o before there at) now;
  }

-- where nothing is edited, nothing is worked at
pub worked_nowhere : (P Q : Contents) (w : What) → AreWorkedAt P Q w []
unfolding IsStrictlySortedBy
worked_nowhere P Q w = record {
  ascend = tt;
  within = λ i there. absurd (contains_none i there);
  edited = λ i o op there at. absurd (contains_none i there);
  anew = λ i o before after there at now. absurd (contains_none i there);
}
