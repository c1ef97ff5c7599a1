-- What a small step edits and names is worked on, and what comes of it follows what is worked on.
use Rattle.std.proofs.Common.{◌≡◌, ◌⊎◌, inl, inr, refl, sym, ap, subst, ◌∙◌, arith, true≢false, ℕ, ◌<◌, Bool, true, false, List, Contains, Some, slice_get}
use Rattle.std.specs.FinMap.{entries, get, keys, nat_cmp-IsAntisymmetric}
use Rattle.std.proofs.lemmas.Bool.{false_from_ne_true}
use Rattle.std.proofs.lemmas.Cmp.{nat_cmp_total}
use Rattle.std.proofs.lemmas.Option.{slice_get-get_or, slice_get_within}
use Rattle.plan_basics.specs.declared.keys.OpKey.{OpKey}
use Rattle.operation_graph.proofs.Telling.{told_contains, told_equal}
use Rattle.ready_list.specs.Choice.{is_among}
use Rattle.status_rules.specs.declared.Mark.TheVariants.{Named, Unmarked}
use Rattle.satisfaction.specs.Counters.{wait_state_at, no_wait_state, waiting_at}
use Rattle.satisfaction.specs.declared.nodes.WaitState.{WaitState}
use Rattle.plan_records.specs.Work.{HasChangedRow, IsWorkedOn}
use Rattle.plan_records.specs.declared.What.{What}
use Rattle.plan_records.specs.declared.What.TheVariants as what
use Rattle.plan_model.specs.Contents.{Contents, IsPairOf, LivePredecessor, Operation, Precedes}
use Rattle.plan_model.specs.Ready.{named, with_mark}
use Rattle.plan_model.specs.Status.{IsReady, IsSatisfied}
use Rattle.plan_model.specs.Valid.{IsValid}
use Rattle.plan_checks.specs.plan_laws.proofs.Kept.{choice_keeps_sound, ready_unmarked}
use Rattle.plan_checks.specs.plan_status.proofs.Counting.{some_counted}
use Rattle.plan_checks.specs.plan_status.proofs.LoadedRows.{row_found}
use Rattle.plan_checks.specs.plan_status.proofs.Naming.{named_if, row_after, same_row, stays_satisfied}
use Rattle.plan_checks.specs.plan_status.proofs.RowKeys.{key_of_row, row_of_key}
use Rattle.small_requests.proofs.ChosenEntries.{chosen_are_ready}
use Rattle.small_requests.proofs.OneFrame.{frame_stays, now}
use Rattle.small_requests.specs.RequestEdits.{Edits, IsRerun}
use Rattle.small_requests.specs.KeptLaws.{HaveOneFrame}
use Rattle.plan_checks.specs.derived_figures.specs.WaitStates.{AreWaitStates, IsKept}
use Rattle.small_requests.proofs.Differing.{newly_satisfied, other_held, other_mark, other_nop}
use Rattle.small_requests.proofs.Freed.{IsFreed}
use Rattle.small_requests.proofs.NewlySatisfied.{waits_for_fewer}
use Rattle.small_requests.specs.FewLooks.{FollowsWork, IsFollower}
use Rattle.small_requests.specs.LooksLaws.{IsSmallStep}
use Rattle.small_requests.specs.StepLooks.{IsMarkedAnew}

-- ---- what is worked on

changed_is_work : (P R : Contents) (w : What) (o : OpKey) → HasChangedRow P R o → IsWorkedOn P w R o
changed_is_work P R (what.Rerun p) o changed = inl changed
changed_is_work P R w o changed = changed

pub reached_is_work : (P R : Contents) (w : What) (o : OpKey) → IsRerun w → Edits P w o → IsWorkedOn P w R o
reached_is_work P R (what.Rerun p) o rerun reached = inr reached
reached_is_work P R w o rerun edits = absurd rerun

-- ---- what is kept

-- what is kept at an index is that of its key
pub kept_there : (S : Contents) (wait_states : List WaitState) → AreWaitStates S wait_states → (i : ℕ) (o : OpKey) → slice_get (keys S.operations) i ≡ Some o → IsKept S o (wait_state_at wait_states i)
kept_there S wait_states are i o at =
    let row = row_of_key (entries S.operations) i o at in
    let lt = slice_get_within (entries S.operations) i (o, row.0) row.1 in
    are.each i o row.0 (wait_state_at wait_states i) row.1 (slice_get-get_or wait_states i no_wait_state (omega (arith, lt, are.size)))

-- ---- a small step

same_held : (b : Bool) (op : Operation) → (named_if b op).held ≡ op.held
same_held true op = refl
same_held false op = refl

same_nop : (b : Bool) (op : Operation) → (named_if b op).nop ≡ op.nop
same_nop true op = refl
same_nop false op = refl

module _ {P Q : Contents} {w : What} {m : ℕ} {edits : List ℕ} {os : List OpKey} (step : IsSmallStep P Q w m edits os) where
  pub ready : (o : OpKey) → is_among os o ≡ true → IsReady Q o
  ready = (chosen_are_ready Q m os step.chosen).0

  pub valid_named : IsValid (named os Q)
  valid_named = (choice_keeps_sound Q m os step.sound_after step.chosen).valid

  pub one_frame : HaveOneFrame P Q
  one_frame = frame_stays P Q edits step.moved step.alike

  pub pair_after : (p o : OpKey) → Precedes P p o → Precedes (named os Q) p o
  pair_after p o pair = subst (λ pairs. IsPairOf pairs p o) (sym step.moved.pairs) pair

  changed_anew : (o : OpKey) (before after : Operation) → get P.operations o ≡ Some before → get Q.operations o ≡ Some after → IsMarkedAnew before after → HasChangedRow P (named os Q) o
  changed_anew o before after was is (inl mark) =
      let out : is_among os o ≡ false = false_from_ne_true (is_among os o) (λ among. mark.1 (ready_unmarked Q o after is (ready o among))) in
      other_mark P (named os Q) valid_named o before after was (same_row Q os o out ∙ is) mark.0
  changed_anew o before after was is (inr (inl held)) =
      other_held P (named os Q) valid_named o before (named_if (is_among os o) after) was (row_after Q os o after is) (λ e. held (sym (same_held (is_among os o) after) ∙ e))
  changed_anew o before after was is (inr (inr nop)) =
      other_nop P (named os Q) valid_named o before (named_if (is_among os o) after) was (row_after Q os o after is) (λ e. nop (sym (same_nop (is_among os o) after) ∙ e))

  pub edited_is_work : (i : ℕ) (o : OpKey) → Contains edits i → slice_get (keys P.operations) i ≡ Some o → IsWorkedOn P w (named os Q) o
  edited_is_work i o has at =
      let row = row_of_key (entries P.operations) i o at in
      let found = row_found P i o row.0 row.1 in
      let new = now P Q edits step.moved o row.0 found in
      elim (step.worked.anew i o row.0 new.0 has row.1 new.1) [
        | inl rerun ↦ reached_is_work P (named os Q) w o rerun (step.worked.edited i o row.0 has row.1)
        | inr anew ↦ changed_is_work P (named os Q) w o (changed_anew o row.0 new.0 found new.1 anew)
      ]

  -- what is named had no mark, unless it was edited
  pub named_is_work : (i : ℕ) (o : OpKey) → is_among os o ≡ true → slice_get (keys Q.operations) i ≡ Some o → IsWorkedOn P w (named os Q) o
  named_is_work i o among at =
      let row = row_of_key (entries Q.operations) i o at in
      let found = row_found Q i o row.0 row.1 in
      let unmarked = ready_unmarked Q o row.0 found (ready o among) in
      let old = step.moved.rows i o row.0 row.1 in
      elim (told_contains (told_equal nat_cmp_total nat_cmp-IsAntisymmetric) edits i) [
        | inl has ↦ edited_is_work i o has (key_of_row (entries P.operations) i o old.before old.was)
        | inr out ↦
            let same : row.0 ≡ old.before = old.elsewhere out in
            let marked : get (named os Q).operations o ≡ Some (with_mark Named row.0) = row_after Q os o row.0 found ∙ ap (λ b. Some (named_if b row.0)) among in
            changed_is_work P (named os Q) w o (other_mark P (named os Q) valid_named o old.before (with_mark Named row.0) (row_found P i o old.before old.was) marked (λ e.
            let alike : Named ≡ Unmarked = e ∙ ap (λ (x : Operation). x.mark) (sym same) ∙ unmarked in cc))
      ]

  newly : (p : OpKey) → ¬ IsSatisfied P p → IsSatisfied Q p → HasChangedRow P (named os Q) p
  newly p never satisfied = newly_satisfied P (named os Q) valid_named p never (stays_satisfied Q os ready satisfied)

  module _ {wait_states kept_then : List WaitState} (are : AreWaitStates P wait_states) (are_then : AreWaitStates Q kept_then) (i : ℕ) (o : OpKey) (at : slice_get (keys P.operations) i ≡ Some o) where
    is_kept : IsKept P o (wait_state_at wait_states i)
    is_kept = kept_there P wait_states are i o at

    is_kept_then : IsKept Q o (wait_state_at kept_then i)
    is_kept_then = kept_there Q kept_then are_then i o (subst (λ ks. slice_get ks i ≡ Some o) one_frame.keys at)

    -- what waits for fewer follows one whose status changed
    pub fewer_follows : waiting_at kept_then i < waiting_at wait_states i → FollowsWork P w (named os Q) o
    fewer_follows less =
        let p = waits_for_fewer P Q step.sound_after.valid step.moved.pairs (λ q. (one_frame.live q).0) o (waiting_at wait_states i) (waiting_at kept_then i) is_kept.1 is_kept_then.1 less in
        (p.0, changed_is_work P (named os Q) w p.0 (newly p.0 p.1.1 p.1.2), pair_after p.0 o p.1.0)

    -- what comes to wait for nothing does so too, or is satisfied and wasn't
    pub freed_in_turn : IsFreed (wait_state_at wait_states i) (wait_state_at kept_then i) → IsFollower P w (named os Q) o ⊎ FollowsWork P w (named os Q) o
    freed_in_turn free = elim free.now [
      | inl on ↦
          let p = (some_counted (λ q. LivePredecessor P q o × ¬ IsSatisfied P q) (waiting_at wait_states i) is_kept.1).0 free.waited in
          let never : ¬ IsSatisfied P o = λ s. true≢false (sym (is_kept.0.1 s) ∙ free.unsatisfied) in
          inl (changed_is_work P (named os Q) w o (newly o never (is_kept_then.0.0 on)), (p.0, pair_after p.0 o p.1.0.0))
      | inr none ↦ let waited = free.waited in inr (fewer_follows (omega (arith, none, waited)))
    ]
