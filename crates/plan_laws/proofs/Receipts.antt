-- Receipts stay well formed.
use Rattle.std.proofs.Common.{◌≡◌, ◌⊎◌, inl, inr, refl, sym, ◌∙◌, ap, subst, true≢false, arith, ℕ, zero, suc, ◌+◌, ◌<◌, ◌≤◌, Bool, true, false, ◌||◌, cond, List, [], ◌∷◌, length, All, Option, Some}
use Rattle.std.specs.Prelude.{slice_index_or}
use Rattle.std.specs.Ordering.{eq_by_cmp, is_eq}
use Rattle.std.specs.Cmp.{tied_itself, Equal-is}
use Rattle.std.specs.FinMap.{get, insert, get-insert, get-empty, len, len-insert, len-empty, contains_key}
use Rattle.plan_basics.specs.declared.limits.TheConstants.{MOST_TRACKERS}
use Rattle.plan_basics.specs.declared.Refusal.TheVariants as refusal
use Rattle.plan_records.specs.Answer.{accepted, refused}
use Rattle.plan_basics.specs.Keys.{IsOperationKey, name_cmp, name_cmp-IsAntisymmetric, name_cmp_total, operation_cmp, operation_cmp_total}
use Rattle.plan_basics.specs.declared.keys.OpKey.{OpKey}
use Rattle.plan_laws.proofs.Every.{answer_keeps_sound, every_change_keeps_sound, no_plan_is_sound}
use Rattle.std.proofs.lemmas.Option.{none-some, same_Some}
use Rattle.plan_laws.proofs.Runs.{accepted_call, refused_changes_nothing}
use Rattle.plan_records.specs.plan_model.specs.Contents.{Contents}
use Rattle.plan_records.specs.plan_model.specs.Plan.{IsSoundPlan}
use Rattle.plan_records.specs.plan_model.specs.Ready.{IsChosen}
use Rattle.plan_records.specs.plan_model.specs.Valid.{IsSound}
use Rattle.plan_records.specs.Acceptance.{minute_of}
use Rattle.plan_records.specs.Receipts.{AreReceipts, IsReceipt}
use Rattle.plan_records.specs.Run.{Answers, Call, CallStep, State, Usable, empty_state, numbered, plain}
use Rattle.plan_records.specs.Schedules.{IsDeskState}
use Rattle.plan_records.specs.Step.{HasReceiptRoom, IsAccepted, IsNumbered, Numbered, NumberedMayBeAccepted, Receipt, last_number}
use Rattle.plan_records.specs.Answer.{Answer}
use Rattle.plan_records.specs.plan_model.specs.ready_list.specs.Choice.{is_among}

stands_among : (os : List OpKey) (k : ℕ) (d : OpKey) → k < length os → is_among os (slice_index_or os k d) ≡ true
stands_among [] k d h = absurd (omega (arith, h))
stands_among (o ∷ os) zero d h = ap (λ b. b || is_among os o) (ap is_eq (tied_itself operation_cmp_total o))
stands_among (o ∷ os) (suc k) d h = later (eq_by_cmp operation_cmp (slice_index_or os k d) o) (is_among os (slice_index_or os k d)) (stands_among os k d (omega (arith, h)))
  where
    later : (a b : Bool) → b ≡ true → (a || b) ≡ true
    later true b e = refl
    later false b e = e

-- what is chosen is of the plan, so its keys are in range
chosen_keys : (P : Contents) (m : ℕ) (chosen : List OpKey) → IsSound P → IsChosen P m chosen → All IsOperationKey chosen
chosen_keys P m chosen sound c k d h =
    let o : OpKey = slice_index_or chosen k d in
    let on = c.choice.on_automatic o (stands_among chosen k d h) in
    (sound.valid.occurrences.each_operation o on.0 on.1).0.key

after_one : (b : Bool) (n : ℕ) → n ≤ MOST_TRACKERS → (b ≡ true) ⊎ (n < MOST_TRACKERS) → cond b n (n + 1) ≤ MOST_TRACKERS
after_one true n h k = h
after_one false n h (inl e) = absurd (true≢false (sym e))
after_one false n h (inr k) = omega (arith, k)

inserted_cases : {X : Type 0} (b : Bool) (v : X) (x : Option X) (y : X) → cond b (Some v) x ≡ Some y → ((b ≡ true) × (v ≡ y)) ⊎ (x ≡ Some y)
inserted_cases true v x y e = inl (refl, same_Some v y e)
inserted_cases false v x y e = inr e

module _ (s t : State) (n : Numbered) (chosen : List OpKey) (sound : IsSoundPlan s.plan) (were : AreReceipts s.plan.loaded s.receipts) (legal : IsNumbered n) (next : n.number ≡ last_number (get s.receipts n.tracker) + 1) (step : IsAccepted (NumberedMayBeAccepted s.plan s.receipts n) s.plan n.request chosen t.plan) (kept : t.receipts ≡ insert s.receipts n.tracker (record { number = n.number; text = n.text; named = chosen })) where
  room : HasReceiptRoom s.receipts n
  room = (step.none_refuses refusal.Limit).1 refl

  is_new : IsReceipt n.tracker (record { number = n.number; text = n.text; named = chosen })
  is_new = record {
    tracker_name = legal.0;
    number = (omega (arith, next), room.2);
    text = (room.1, legal.1);
    named = chosen_keys step.changed (minute_of n.request.at) chosen
        (every_change_keeps_sound n.request.what s.plan step.changed n.request.at sound (λ r. (step.none_refuses r).0) step.is_request step.changes)
        step.is_chosen;
  }

  pub receipts_with_one : AreReceipts t.plan.loaded t.receipts
  receipts_with_one = subst (AreReceipts t.plan.loaded) (sym kept) (record {
    each = λ tracker receipt e. elim (inserted_cases (eq_by_cmp name_cmp tracker n.tracker) _ (get s.receipts tracker) receipt (sym (get-insert name_cmp_total s.receipts n.tracker _ tracker) ∙ e)) [
      | inl same ↦ subst (λ z. IsReceipt z receipt) (sym (name_cmp-IsAntisymmetric tracker n.tracker ((Equal-is (name_cmp tracker n.tracker)).0 same.0))) (subst (IsReceipt n.tracker) same.1 is_new)
      | inr old ↦ were.each tracker receipt old
    ];
    few = subst (λ z. z ≤ MOST_TRACKERS) (sym (len-insert name_cmp_total s.receipts n.tracker _)) (after_one (contains_key s.receipts n.tracker) (len s.receipts) were.few room.0);
    before_load = λ h. absurd (true≢false (ap (λ X. X.loaded) (sym step.is_after) ∙ h));
  })

pub answer_keeps_receipts : (s t : State) (u v : Usable) (c : Call) (reply : Answer) → IsDeskState s → Answers s u c reply t v → IsDeskState t
answer_keeps_receipts s t u v c (refused r) h a = subst IsDeskState (sym (refused_changes_nothing s t u v c r a)) h
answer_keeps_receipts s t u v c (accepted chosen) h a = (answer_keeps_sound s t u v c (accepted chosen) h.0 a, by_call s t c chosen h.0 h.1 (accepted_call s t u v c chosen a))
  where
    by_call : (s t : State) (c : Call) (chosen : List OpKey) → IsSoundPlan s.plan → AreReceipts s.plan.loaded s.receipts → CallStep s c (accepted chosen) t → AreReceipts t.plan.loaded t.receipts
    by_call s t (plain q) chosen sound were a =
        subst (AreReceipts t.plan.loaded) (sym a.1) (record { each = were.each; few = were.few; before_load = λ h. absurd (true≢false (ap (λ X. X.loaded) (sym a.0.is_after) ∙ h)) })
    by_call s t (numbered n) chosen sound were (inl again) = subst (λ z. AreReceipts z.loaded t.receipts) (sym again.1) (subst (AreReceipts s.plan.loaded) (sym again.2) were)
    by_call s t (numbered n) chosen sound were (inr new) = receipts_with_one s t n chosen sound were (new.1 chosen refl) new.0 new.2 new.3

pub empty_is_desk_state : IsDeskState empty_state
empty_is_desk_state = (
  no_plan_is_sound,
  record {
    each = λ tracker receipt e. absurd (none-some receipt (sym (get-empty name_cmp tracker) ∙ e));
    few = rw (len-empty name_cmp Receipt) (omega arith);
    before_load = λ h. refl;
  },
)
