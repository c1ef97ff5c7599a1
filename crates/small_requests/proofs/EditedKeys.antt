-- The keys of what a request edits, and that the plan is sound after it.
use Rattle.std.proofs.Common.{◌≡◌, refl, sym, subst, ◌∙◌, arith, ℕ, true≢false, pos, List, [], ◌∷◌, All, Contains, Some, slice_get}
use Rattle.std.proofs.lemmas.Int.{ints}
use Rattle.std.proofs.lemmas.Option.{same_Some}
use Rattle.std.specs.FinMap.{entries, keys}
use Rattle.plan_basics.proofs.Members.{all_by_members, contains_mapped, mapped_contains}
use Rattle.plan_basics.specs.Keys.{operation_cmp_total, operation_cmp-IsAntisymmetric}
use Rattle.plan_basics.specs.Minutes.{IsMoment}
use Rattle.plan_basics.specs.Refusals.{NoneRefuses}
use Rattle.plan_basics.specs.declared.Refusal.TheVariants as refusal
use Rattle.plan_basics.specs.declared.keys.OpKey.{OpKey}
use Rattle.small_requests.proofs.Targets.{target_in_plan}
use Rattle.small_requests.specs.RequestEdits.{Edits, IsEditedAt, IsSmall}
use Rattle.operation_graph.specs.Paths.{IsPathBy, end_of}
use Rattle.plan_drafts.specs.PlanGraphs.{StandAt}
use Rattle.plan_checks.specs.plan_laws.proofs.Every.{every_change_keeps_sound}
use Rattle.plan_model.proofs.Members.{if_member, member_if}
use Rattle.plan_model.specs.Contents.{Contents, IsInPlan, IsLive, Precedes}
use Rattle.plan_model.specs.Plan.{plan_held}
use Rattle.plan_model.specs.Valid.{IsSound}
use Rattle.plan_records.specs.Acceptance.{IsLoad, MayBeAccepted, MayBeDone}
use Rattle.plan_records.specs.Changes.{Changes, IsRequest}
use Rattle.plan_records.specs.declared.What.{What}
use Rattle.plan_records.specs.declared.What.TheVariants as what
use Rattle.plan_checks.specs.plan_status.proofs.LoadedRows.{row_found, row_of}
use Rattle.plan_checks.specs.plan_status.proofs.RowKeys.{key_of_row, row_of_key}
use Rattle.small_requests.specs.EditedKeys.{AreEditedKeys}

-- a path ends in the plan that begins there
ends_in_plan : (P : Contents) (o : OpKey) (rest : List OpKey) → IsInPlan P o → IsPathBy (Precedes P) (IsLive P) o rest → IsInPlan P (end_of o rest)
ends_in_plan P o [] is path = is
ends_in_plan P o (b ∷ rest) is (e, live, path) = ends_in_plan P b rest (live.0, live.1, tt) path

-- what a request edits in whose way nothing stands is in the plan
edited_in_plan : (P : Contents) (m : ℕ) (w : What) → NoneRefuses (MayBeDone P m w) → (q : OpKey) → Edits P w q → IsInPlan P q
edited_in_plan P m (what.Rerun o) clear q reached = subst (IsInPlan P) reached.2 (ends_in_plan P o reached.0 (clear refusal.UnknownOperation) reached.1)
edited_in_plan P m w clear q edits = target_in_plan P m w q edits clear

module _ (P : Contents) (places : List ℕ) (os : List OpKey) (stand : StandAt (keys P.operations) places os) where
  -- the key of one of the places
  key_of_place : (i : ℕ) → Contains places i → (o : OpKey) × (slice_get (keys P.operations) i ≡ Some o) × Contains os o
  key_of_place i has =
      let found = mapped_contains Some os (slice_get (keys P.operations) i) (subst (λ xs. Contains xs (slice_get (keys P.operations) i)) stand (contains_mapped (slice_get (keys P.operations)) places i has)) in
      (found.0, sym found.1, found.2)

  -- the place of one of the keys
  place_of_key : (o : OpKey) → Contains os o → (i : ℕ) × (slice_get (keys P.operations) i ≡ Some o) × Contains places i
  place_of_key o has = mapped_contains (slice_get (keys P.operations)) places (Some o) (subst (λ xs. Contains xs (Some o)) (sym stand) (contains_mapped Some os o has))

  -- they are in the plan
  pub keys_in_plan : All (IsInPlan P) os
  keys_in_plan = all_by_members (IsInPlan P) os (λ o has.
      let place = place_of_key o has in
      let row = row_of_key (entries P.operations) place.0 o place.1 in
      (row.0, row_found P place.0 o row.0 row.1, tt))

  -- they are those of what is edited at these places
  pub are_edited_keys : (m : ℕ) (w : What) → NoneRefuses (MayBeDone P m w) → IsEditedAt P w places → AreEditedKeys P w os
  are_edited_keys m w clear edited o = (
    λ among.
        let place = place_of_key o (member_if operation_cmp-IsAntisymmetric os o among) in
        let row = row_of_key (entries P.operations) place.0 o place.1 in
        (edited.each place.0 o row.0 row.1).0 place.2,
    λ edits.
        let known = edited_in_plan P m w clear o edits in
        let row = row_of P o known.0 known.1 in
        let key = key_of_place row.0 ((edited.each row.0 o known.0 row.1).1 edits) in
        if_member operation_cmp_total os o (subst (Contains os) (same_Some key.0 o (sym key.1 ∙ key_of_row (entries P.operations) row.0 o known.0 row.1)) key.2),
  )

-- ---- soundness

-- no small request loads a plan
never_load : (w : What) → IsSmall w → IsLoad w → ⊥
never_load (what.Load draft) small load = small
never_load _ small load = load

-- a small request in whose way nothing of the contents stands may be accepted at that minute
may_be_accepted : (P : Contents) (m : ℕ) (w : What) → IsMoment m → IsSmall w → NoneRefuses (MayBeDone P m w) → NoneRefuses (MayBeAccepted (plan_held 0 (Some P)) (record { at = pos m; what = w }))
may_be_accepted P m w moment small clear refusal.Past = omega (arith, ints)
may_be_accepted P m w moment small clear refusal.MomentRange = (m, refl, moment)
may_be_accepted P m w moment small clear refusal.NotLoaded = λ needs. refl
may_be_accepted P m w moment small clear refusal.Loaded = λ load. absurd (never_load w small load)
may_be_accepted P m w moment small clear r = clear r

pub edited_sound : (P Q : Contents) (m : ℕ) (w : What) → IsSound P → IsMoment m → IsSmall w → NoneRefuses (MayBeDone P m w) → IsRequest w → Changes P w Q → IsSound Q
edited_sound P Q m w sound moment small clear legal changes =
    every_change_keeps_sound w (plan_held 0 (Some P)) Q (pos m)
    (record { clock = omega arith; contents = sound; before_load = λ h. absurd (true≢false h) })
    (may_be_accepted P m w moment small clear) legal changes
