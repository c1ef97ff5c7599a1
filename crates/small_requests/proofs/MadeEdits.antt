-- What a request edits is an edit of the plan.
use Rattle.std.proofs.Common.{◌≡◌, refl, sym, ap, subst, ◌∙◌, arith, true≢false, ℕ, zero, suc, ◌+◌, ◌<◌, ◌≤◌, List, [], ◌∷◌, Contains, Some, length, map, option_map, slice_get}
use Rattle.std.proofs.lemmas.Option.{none-some, same_Some}
use Rattle.std.proofs.lemmas.Map.Keys.{below_from_sorted}
use Rattle.std.specs.FinMap.{entries, get, keys}
use Rattle.std.specs.List.Sorted.{IsStrictlySortedBy}
use Rattle.std.specs.Ordering.{nat_cmp}
use Rattle.plan_basics.proofs.Members.{contains_head, contains_later, contains_mapped, contains_none, mapped_contains}
use Rattle.plan_basics.specs.Keys.{operation_cmp, operation_cmp_total, operation_cmp-IsAntisymmetric}
use Rattle.plan_basics.specs.Minutes.{IsMoment}
use Rattle.plan_basics.specs.Refusals.{NoneRefuses}
use Rattle.plan_basics.specs.declared.keys.OpKey.{OpKey}
use Rattle.plan_checks.specs.plan_changes.specs.Markings.{DifferInMarks, marking_at}
use Rattle.small_requests.proofs.NewMarks.{still_live, unmoved}
use Rattle.small_requests.proofs.Rerunning.{reruns_go_on}
use Rattle.small_requests.proofs.SmallMoves.{small_requests_move}
use Rattle.small_requests.proofs.Targets.{edited_are_unsatisfied}
use Rattle.small_requests.specs.RequestEdits.{ArePlacesWhere, Edits, IsEditedAt, IsRerun, IsSmall}
use Rattle.plan_drafts.proofs.KeyPlaces.{one_place}
use Rattle.plan_drafts.proofs.RowPlaces.{row_at}
use Rattle.plan_model.proofs.Entries.{entries_in_order}
use Rattle.plan_model.proofs.Members.{if_member, member_if}
use Rattle.plan_model.specs.Contents.{Contents, Operation}
use Rattle.plan_model.specs.Valid.{IsSound}
use Rattle.small_requests.proofs.MarksAnew.{worked_at, worked_nowhere}
use Rattle.small_requests.specs.StepLooks.{AreWorkedAt, one_at_least}
use Rattle.plan_model.specs.Markings.{marking_of}
use Rattle.plan_model.specs.declared.moves.Marking.{Marking}
use Rattle.plan_records.specs.Acceptance.{MayBeDone}
use Rattle.plan_records.specs.Changes.{Changes}
use Rattle.plan_records.specs.declared.What.{What}
use Rattle.plan_records.specs.declared.What.TheVariants as what
use Rattle.plan_checks.specs.plan_status.proofs.LoadedRows.{row_found}
use Rattle.plan_checks.specs.plan_status.proofs.RowKeys.{key_of_row}
use Rattle.small_requests.proofs.Idle.{idle_by_flag, idle_changes, idle_target}
use Rattle.small_requests.proofs.EditedKeys.{are_edited_keys, edited_sound}
use Rattle.small_requests.proofs.Marked.{its_operation, marked_there}
use Rattle.small_requests.proofs.Requested.{same_everywhere}
use Rattle.small_requests.specs.EditedKeys.{AreEditedKeys}
use Rattle.small_requests.specs.Edits.{IsEditFor, IsEditOf, IsNotedEdit, edited}
use Rattle.small_requests.specs.Idle.{IsIdle, IsOfNothing}
use Rattle.small_requests.specs.Revisions.{HasPlaceFor, with_facilities, written}
use Rattle.small_requests.specs.declared.edits.Edit.{Edit}

-- a rerun is of an operation
rerun_of : (w : What) → IsRerun w → (o : OpKey) × (w ≡ what.Rerun o)
rerun_of (what.Rerun o) is = (o, refl)
rerun_of _ is = absurd is

none_ascend : IsStrictlySortedBy nat_cmp []
unfolding IsStrictlySortedBy
none_ascend = tt

-- places in order are apart
apart : (i j : ℕ) (rest : List ℕ) → IsStrictlySortedBy nat_cmp (i ∷ j ∷ rest) → i ≡ j → ⊥
apart i j rest ascend same = let lt : i < j = below_from_sorted (i ∷ j ∷ rest) 0 1 0 ascend (omega arith) (omega arith) in omega (arith, lt, same)

module _ (P : Contents) (m : ℕ) (w : What) (e : Edit) (small : IsSmall w) (clear : NoneRefuses (MayBeDone P m w)) (noted : IsNotedEdit P w e) where
  are : AreEditedKeys P w e.keys.items
  are = are_edited_keys P e.places.items e.keys.items noted.stand m w clear noted.at

  -- written, it makes what the request makes of the plan
  pub changes_so : Changes P w (edited e P)
  changes_so = noted.writes.changes e.keys.items are

  pub is_edit_for : IsSound P → IsMoment m → IsEditFor P e
  is_edit_for sound moment =
      let moves = small_requests_move P (edited e P) w m e.places.items sound.valid small clear changes_so noted.at in
      record {
        sound = sound;
        sound_after = edited_sound P (edited e P) m w sound moment small clear noted.writes.legal changes_so;
        edit = record {
          moved = moves.0;
          alike = moves.1;
          marked = marked_there P e.keys.items e.marks.items noted.were e.places.items noted.stand;
          ascend = noted.at.ascend;
          within = noted.at.within;
          unsatisfied = λ none i has there. edited_are_unsatisfied P w m e.places.items sound.valid (λ is. true≢false (sym (noted.rerun.1 is) ∙ none)) clear noted.at i there.0 there.1 has there.2 there.3;
          follow = λ yes g graph i j has edge.
              let of = rerun_of w (noted.rerun.0 yes) in
              reruns_go_on P of.0 e.places.items g graph (subst (λ v. IsEditedAt P v e.places.items) of.1 noted.at) i j has edge;
        };
        has_place = noted.writes.has_place;
        remarks = noted.writes.remarks e.keys.items are;
        marked = noted.were;
      }

  -- the marking of what is edited is among those that were noted
  noted_marking : (o : OpKey) (op : Operation) → Edits P w o → get P.operations o ≡ Some op → Contains e.marks.items (marking_of op)
  noted_marking o op edits is =
      let has = member_if operation_cmp-IsAntisymmetric e.keys.items o ((are o).1 edits) in
      let found = mapped_contains Some e.marks.items (marking_at P o) (subst (λ xs. Contains xs (marking_at P o)) noted.were (contains_mapped (marking_at P) e.keys.items o has)) in
      subst (Contains e.marks.items) (same_Some found.0 (marking_of op) (found.1 ∙ ap (option_map marking_of) is)) found.2

  -- where no flag stands so already, the request works there
  pub worked_so : IsSound P → ((marking : Marking) → Contains e.marks.items marking → ¬ IsIdle w marking) → AreWorkedAt P (edited e P) w e.places.items
  worked_so sound busy = worked_at P sound m w (edited e P) e.places.items clear changes_so noted.at (λ i o op has stands so.
      busy (marking_of op) (noted_marking o op ((noted.at.each i o op stands).0 has) (row_found P i o op stands)) (idle_by_flag w op so))

-- ---- the edit of nothing

module _ (P : Contents) (n : Edit) (nothing : IsOfNothing n) where
  -- it leaves the plan as it is
  pub edited_same : edited n P ≡ P
  edited_same = ap (λ x. written n.keys.items x P) nothing.revision

  no_place : (i : ℕ) → Contains n.places.items i → ⊥
  no_place i has = contains_none i (subst (λ ps. Contains ps i) nothing.places has)

  -- it may be written
  pub nothing_edits : IsSound P → IsEditFor P n
  nothing_edits sound = record {
    sound = sound;
    sound_after = subst IsSound (sym edited_same) sound;
    edit = subst (λ Q. IsEditOf P Q n) (sym edited_same) (record {
      moved = unmoved P P.workstations P.resources n.places.items refl;
      alike = still_live P P refl;
      marked = record { size = ap length nothing.marks ∙ sym (ap length nothing.places); each = λ k i mk at_k its. absurd (none-some i (sym (ap (λ ps. slice_get ps k) nothing.places) ∙ at_k)) };
      ascend = subst (IsStrictlySortedBy nat_cmp) (sym nothing.places) none_ascend;
      within = λ i has. absurd (no_place i has);
      unsatisfied = λ none i has. absurd (no_place i has);
      follow = λ yes g graph i j has edge. absurd (no_place i has);
    });
    has_place = subst (HasPlaceFor P) (sym nothing.revision) tt;
    remarks = subst (λ x. DifferInMarks (with_facilities x P) (written n.keys.items x P) n.keys.items) (sym nothing.revision) (same_everywhere P n.keys.items);
    marked = ap (map (marking_at P)) nothing.keys ∙ sym (ap (map Some) nothing.marks);
  }

-- ---- a flag that stands so already

module _ (P : Contents) (m : ℕ) (w : What) (e n : Edit) (clear : NoneRefuses (MayBeDone P m w)) (noted : IsNotedEdit P w e) (marking : Marking) (has : Contains e.marks.items marking) (idle : IsIdle w marking) where
  -- the operation of the marking that was noted
  operation_noted : (o : OpKey) × (op : Operation) × Edits P w o × (get P.operations o ≡ Some op) × (marking_of op ≡ marking)
  operation_noted =
      let found = mapped_contains (marking_at P) e.keys.items (Some marking) (subst (λ xs. Contains xs (Some marking)) (sym noted.were) (contains_mapped Some e.marks.items marking has)) in
      let edits = (are_edited_keys P e.places.items e.keys.items noted.stand m w clear noted.at found.0).0 (if_member operation_cmp_total e.keys.items found.0 found.2) in
      let op = its_operation (get P.operations found.0) marking found.1 in
      (found.0, op.0, edits, op.1, op.2)

  -- the request makes the plan of itself
  same_changes : Changes P w P
  same_changes = let its = operation_noted in idle_changes P w its.0 its.1 its.2 its.3 (subst (IsIdle w) (sym its.4) idle)

  -- it edits one place at most
  pub one_edited : length e.places.items ≤ 1
  one_edited = of e.places.items refl
    where
      of : (places : List ℕ) → places ≡ e.places.items → length places ≤ 1
      of [] is = omega arith
      of (i ∷ []) is = omega arith
      of (i ∷ j ∷ rest) is =
          let places = i ∷ j ∷ rest in
          let there : ArePlacesWhere P (Edits P w) places = subst (ArePlacesWhere P (Edits P w)) (sym is) noted.at in
          let first = row_at (entries P.operations) i (there.within i (contains_head i (j ∷ rest))) in
          let second = row_at (entries P.operations) j (there.within j (contains_later i (j ∷ rest) j (contains_head j rest))) in
          let one = (there.each i first.0.0 first.0.1 first.1).0 (contains_head i (j ∷ rest)) in
          let other = (there.each j second.0.0 second.0.1 second.1).0 (contains_later i (j ∷ rest) j (contains_head j rest)) in
          let same = idle_target w marking idle P first.0.0 second.0.0 one other in
          absurd (apart i j rest there.ascend (one_place operation_cmp_total (keys P.operations) (entries_in_order operation_cmp P.operations) i j first.0.0
          (key_of_row (entries P.operations) i first.0.0 first.0.1 first.1) (key_of_row (entries P.operations) j second.0.0 second.0.1 second.1 ∙ ap Some (sym same))))

  module _ (nothing : IsOfNothing n) where
    pub nothing_changes : Changes P w (edited n P)
    nothing_changes = subst (Changes P w) (sym (edited_same P n nothing)) same_changes

    pub nothing_worked : AreWorkedAt P (edited n P) w n.places.items
    nothing_worked = subst (AreWorkedAt P (edited n P) w) (sym nothing.places) (worked_nowhere P (edited n P) w)

    -- a look is taken
    pub idle_few : (old new : ℕ) → new ≤ old + length e.places.items → new ≤ old + one_at_least (length n.places.items)
    idle_few old new most = let one = one_edited in subst (λ ps. new ≤ old + one_at_least (length ps)) (sym nothing.places) (omega (arith, one, most))

-- what is taken at each is so where one is at least
pub busy_few : (n old new : ℕ) → new ≤ old + n → new ≤ old + one_at_least n
busy_few zero old new most = omega (arith, most)
busy_few (suc n) old new most = most
