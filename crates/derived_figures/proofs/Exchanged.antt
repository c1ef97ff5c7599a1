-- What one status that is exchanged changes of which operation has which.
use Rattle.std.proofs.Common.{◌≡◌, ◌≢◌, inl, inr, sym, ap, subst, ◌∙◌, true, ℕ, List, set, slice_get, Some}
use Rattle.std.proofs.lemmas.Option.{same_Some, slice_get_within}
use Rattle.std.specs.List.Sorted.{IsStrictlySortedBy}
use Rattle.plan_model.specs.latest_start.proofs.Placed.{at_other, at_set}
use Rattle.plan_basics.specs.Keys.{operation_cmp, operation_cmp_total}
use Rattle.plan_basics.specs.declared.keys.OpKey.{OpKey}
use Rattle.status_rules.specs.Classes.{is_ready}
use Rattle.status_rules.specs.declared.Status.{Status}
use Rattle.start_choice.specs.plan_drafts.proofs.KeyPlaces.{one_place}
use Rattle.start_choice.specs.plan_laws.proofs.Entries.{same_operation}
use Rattle.start_choice.specs.plan_status.proofs.Ascending.{set_cases}
use Rattle.derived_figures.specs.ByStatuses.{HasListed, IsReadyBy}

module _ (ks : List OpKey) (sorted : IsStrictlySortedBy operation_cmp ks) (statuses : List Status) (place : ℕ) (k : OpKey) (at : slice_get ks place ≡ Some k)
    (old new : Status) (was : slice_get statuses place ≡ Some old) where
  -- the operation at the place has the old one before, and the new one after
  pub had_old : HasListed ks statuses k old
  had_old = (place, at, was)

  pub had_alone : (s : Status) → HasListed ks statuses k s → s ≡ old
  had_alone s (i, here, is) = same_Some s old (sym is ∙ ap (slice_get statuses) (one_place operation_cmp_total ks sorted i place k here at) ∙ was)

  pub has_new : HasListed ks (set statuses place new) k new
  has_new = (place, at, at_set statuses place new (slice_get_within statuses place old was))

  pub has_alone : (s : Status) → HasListed ks (set statuses place new) k s → s ≡ new
  has_alone s (i, here, is) = elim (set_cases statuses place i new s is) [
    | inl this ↦ this.1
    | inr other ↦ absurd (other.0 (one_place operation_cmp_total ks sorted i place k here at))
  ]

  module _ (o : OpKey) (apart : o ≢ k) (s : Status) where
    elsewhere : (i : ℕ) → slice_get ks i ≡ Some o → i ≢ place
    elsewhere i here e = apart (same_Some o k (sym here ∙ ap (slice_get ks) e ∙ at))

    -- any other has after what it had before
    pub other_after : HasListed ks statuses o s → HasListed ks (set statuses place new) o s
    other_after (i, here, is) = (i, here, at_other statuses place i new (elsewhere i here) ∙ is)

    pub other_before : HasListed ks (set statuses place new) o s → HasListed ks statuses o s
    other_before (i, here, is) = (i, here, sym (at_other statuses place i new (elsewhere i here)) ∙ is)

  -- ---- what is ready

  pub ready_after : (o : OpKey) → o ≢ k → IsReadyBy ks statuses o → IsReadyBy ks (set statuses place new) o
  ready_after o apart h = (h.0, other_after o apart h.0 h.1, h.2)

  pub ready_before : (o : OpKey) → o ≢ k → IsReadyBy ks (set statuses place new) o → IsReadyBy ks statuses o
  ready_before o apart h = (h.0, other_before o apart h.0 h.1, h.2)

  pub ready_now : is_ready new ≡ true → IsReadyBy ks (set statuses place new) k
  ready_now e = (new, has_new, e)

  pub ready_then : is_ready old ≡ true → IsReadyBy ks statuses k
  ready_then e = (old, had_old, e)

  pub ready_told_now : IsReadyBy ks (set statuses place new) k → is_ready new ≡ true
  ready_told_now h = subst (λ s. is_ready s ≡ true) (has_alone h.0 h.1) h.2

  pub ready_told_then : IsReadyBy ks statuses k → is_ready old ≡ true
  ready_told_then h = subst (λ s. is_ready s ≡ true) (had_alone h.0 h.1) h.2

  -- where neither status is a ready one, or both are
  pub ready_still : is_ready old ≡ is_ready new → (o : OpKey) → IsReadyBy ks statuses o → IsReadyBy ks (set statuses place new) o
  ready_still e o h = elim (same_operation o k) [
    | inl is ↦ subst (IsReadyBy ks (set statuses place new)) (sym is) (ready_now (sym e ∙ ready_told_then (subst (IsReadyBy ks statuses) is h)))
    | inr apart ↦ ready_after o apart h
  ]

  pub ready_already : is_ready old ≡ is_ready new → (o : OpKey) → IsReadyBy ks (set statuses place new) o → IsReadyBy ks statuses o
  ready_already e o h = elim (same_operation o k) [
    | inl is ↦ subst (IsReadyBy ks statuses) (sym is) (ready_then (e ∙ ready_told_now (subst (IsReadyBy ks (set statuses place new)) is h)))
    | inr apart ↦ ready_before o apart h
  ]
