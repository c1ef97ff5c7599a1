-- What is given out and held, place by place of those where operations are moved.
use Rattle.std.proofs.Common.{◌≡◌, inl, inr, sym, ap, ◌∙◌, arith, ℕ, ◌+◌, ◌<◌, ◌≤◌, List, length, slice_get, Contains, Some}
use Rattle.std.specs.FinMap.{entries}
use Rattle.std.specs.List.Sorted.{IsStrictlySortedBy}
use Rattle.std.specs.Ordering.{nat_cmp}
use Rattle.std.proofs.lemmas.Bool.{cases_lt}
use Rattle.std.proofs.lemmas.List.Kept.{AllPairs-from_increasing}
use Rattle.std.proofs.lemmas.Map.Keys.{IsStrictlyIncreasing-from_sorted}
use Rattle.std.proofs.lemmas.Option.{get_or_from_slice_get, same_Some, slice_get-get_or, slice_get_within}
use Rattle.plan_basics.specs.declared.keys.OpKey.{OpKey}
use Rattle.special_resources.specs.Holdings.{Held}
use Rattle.plan_model.specs.Contents.{Contents, Operation}
use Rattle.plan_model.specs.Valid.{IsValid}
use Rattle.start_choice.specs.plan_drafts.proofs.RowPlaces.{row_at}
use Rattle.plan_model.specs.Moves.{IsMovedAt}
use Rattle.plan_model.specs.declared.moves.Marking.{Marking}
use Rattle.workstations.specs.declared.Capacity.{Capacity}
use Rattle.start_choice.specs.Choices.{AreGivenOut, AreHeldIn}
use Rattle.derived_figures.specs.TakingsBefore.{HasPlanBefore, IsBeforeAt, WereMarked}
use Rattle.derived_figures.specs.Between.{AreGivenBetween, AreHeldBetween, IsRemarkedPlan}
use Rattle.derived_figures.proofs.GivenBetween.{AreSame, given_first, given_last, given_onward}
use Rattle.derived_figures.proofs.HeldBetween.{held_first, held_last, held_onward}
use Rattle.derived_figures.proofs.Remarked.{remarked_by_move, row_after}

-- the first k places are gone through: they are all below the next one, and the others aren't
pub record AreRetaken (P Q : Contents) (places : List ℕ) (k : ℕ) (given : List Capacity) (held : Held) : Type 0 where
  pub next : ℕ
  pub within : next ≤ length (entries P.operations)
  pub past : (j i : ℕ) → slice_get places j ≡ Some i → j < k → i < next
  pub ahead : (j i : ℕ) → slice_get places j ≡ Some i → k ≤ j → next ≤ i
  pub are_given : AreGivenBetween P Q next given
  pub are_held : AreHeldBetween P Q next held

module _ (P Q : Contents) (places : List ℕ) (moved : IsMovedAt P Q places) where
  abbrev alike : IsRemarkedPlan P Q
  alike = remarked_by_move P Q places moved

  none_retaken : (given : List Capacity) (held : Held) → AreGivenOut P (entries P.workstations) given → AreHeldIn P held → AreRetaken P Q places 0 given held
  none_retaken given held are_given are_held = record {
    next = 0;
    within = omega arith;
    past = λ j i at lt. absurd (omega (arith, lt));
    ahead = λ j i at le. omega arith;
    are_given = given_first P Q alike given are_given;
    are_held = held_first P Q alike held are_held;
  }

  same_row : (i : ℕ) (o : OpKey) (op : Operation) → slice_get (entries Q.operations) i ≡ Some (o, op) → ¬ Contains places i → slice_get (entries P.operations) i ≡ Some (o, op)
  same_row i o op at out = let row = moved.rows i o op at in row.was ∙ ap (λ z. Some (o, z)) (sym (row.elsewhere out))

  module _ (k : ℕ) (given : List Capacity) (held : Held) (so_far : AreRetaken P Q places k given held) where
    module _ (n : ℕ) (le : so_far.next ≤ n) (few : n ≤ length (entries P.operations)) (below : (j i : ℕ) → slice_get places j ≡ Some i → k ≤ j → n ≤ i) where
      -- between the places that are gone through and the next one none is moved
      unmoved : (i : ℕ) → so_far.next ≤ i → i < n → ¬ Contains places i
      unmoved i low high (j, lt, is) =
          let at : slice_get places j ≡ Some i = slice_get-get_or places j i lt ∙ ap Some is in
          elim (cases_lt j k) [
            | inl less ↦ let p = so_far.past j i at less in omega (arith, p, low)
            | inr more ↦ let p = below j i at more in omega (arith, p, high)
          ]

      row_there : (i : ℕ) → so_far.next ≤ i → i < n → (row : OpKey × Operation) → slice_get (entries Q.operations) i ≡ Some row
          → (o : OpKey) × (op : Operation) × (slice_get (entries P.operations) i ≡ Some (o, op)) × (slice_get (entries Q.operations) i ≡ Some (o, op))
      row_there i low high row at = (row.0, row.1, same_row i row.0 row.1 at (unmoved i low high), at)

      same_between : AreSame P Q alike so_far.next n
      same_between i low high =
          let lt : i < length (entries P.operations) = omega (arith, high, few) in
          let row = row_at (entries P.operations) i lt in
          let other = row_after P Q alike i row.0.0 row.0.1 row.1 in
          row_there i low high (row.0.0, other.0) other.1

      given_up_to : AreGivenBetween P Q n given
      given_up_to = given_onward P Q alike so_far.next n le same_between given so_far.are_given

      held_up_to : AreHeldBetween P Q n held
      held_up_to = held_onward P Q alike so_far.next n le (λ i o op at low high. same_row i o op at (unmoved i low high)) held so_far.are_held

    module _ (up : IsStrictlySortedBy nat_cmp places) (i : ℕ) (at : slice_get places k ≡ Some i) (within : i < length (entries P.operations)) where
      later : (j l : ℕ) → slice_get places j ≡ Some l → k < j → i < l
      later j l there less = omega (
        arith,
        AllPairs-from_increasing places (IsStrictlyIncreasing-from_sorted places up) k j 0 less (slice_get_within places j l there),
        get_or_from_slice_get places k i 0 at,
        get_or_from_slice_get places j l 0 there,
      )

      next_below : (j l : ℕ) → slice_get places j ≡ Some l → k ≤ j → i ≤ l
      next_below j l there le = elim (cases_lt k j) [
        | inl less ↦ let p = later j l there less in omega (arith, p)
        | inr more ↦ let here : j ≡ k = omega (arith, le, more) in let same : i ≡ l = same_Some i l (sym at ∙ ap (slice_get places) (sym here) ∙ there) in omega (arith, same)
      ]

      -- as far as the next place
      given_to_next : AreGivenBetween P Q i given
      given_to_next = given_up_to i (so_far.ahead k i at (omega arith)) (omega (arith, within)) next_below

      held_to_next : AreHeldBetween P Q i held
      held_to_next = held_up_to i (so_far.ahead k i at (omega arith)) (omega (arith, within)) next_below

      -- and past it
      retaken_past : (given' : List Capacity) (held' : Held) → AreGivenBetween P Q (i + 1) given' → AreHeldBetween P Q (i + 1) held' → AreRetaken P Q places (k + 1) given' held'
      retaken_past given' held' are_given are_held = record {
        next = i + 1;
        within = omega (arith, within);
        past = λ j l there lt. elim (cases_lt j k) [
          | inl less ↦ let p = so_far.past j l there less in let q = so_far.ahead k i at (omega arith) in omega (arith, p, q)
          | inr more ↦ let here : j ≡ k = omega (arith, lt, more) in let same : i ≡ l = same_Some i l (sym at ∙ ap (slice_get places) (sym here) ∙ there) in omega (arith, same)
        ];
        ahead = λ j l there le. let p = later j l there (omega (arith, le)) in omega (arith, p);
        are_given = are_given;
        are_held = are_held;
      }

    -- past the last place
    module _ (all : length places ≤ k) where
      none_below : (j i : ℕ) → slice_get places j ≡ Some i → k ≤ j → length (entries P.operations) ≤ i
      none_below j i at le = absurd (omega (arith, all, le, slice_get_within places j i at))

      given_to_last : AreGivenOut Q (entries Q.workstations) given
      given_to_last =
          given_last P Q alike (length (entries P.operations)) (omega (arith, moved.size)) given
          (given_up_to (length (entries P.operations)) so_far.within (omega arith) none_below)

      held_to_last : AreHeldIn Q held
      held_to_last =
          held_last P Q alike (length (entries P.operations)) (omega (arith, moved.size)) held
          (held_up_to (length (entries P.operations)) so_far.within (omega arith) none_below)

-- there was a plan with these markings at these places, of which the first k are gone through
pub record HasPlanBetween (Q : Contents) (places : List ℕ) (marks : List Marking) (k : ℕ) (given : List Capacity) (held : Held) : Type 0 where
  pub plan : Contents
  pub valid : IsValid plan
  pub moved : IsMovedAt plan Q places
  pub marked : WereMarked plan places marks
  pub retaken : AreRetaken plan Q places k given held

module _ (Q : Contents) (places : List ℕ) (marks : List Marking) where
  pub none_gone_through : (given : List Capacity) (held : Held) → HasPlanBefore Q places marks given held → HasPlanBetween Q places marks 0 given held
  none_gone_through given held before = record {
    plan = before.plan;
    valid = before.valid;
    moved = before.moved;
    marked = before.marked;
    retaken = none_retaken before.plan Q places before.moved given held before.are_given before.are_held;
  }

  module _ (k : ℕ) (given : List Capacity) (held : Held) (so_far : HasPlanBetween Q places marks k given held) where
    module _ (up : IsStrictlySortedBy nat_cmp places) (i : ℕ) (at : slice_get places k ≡ Some i) (within : i < length (entries Q.operations)) where
      within_before : i < length (entries so_far.plan.operations)
      within_before = omega (arith, within, so_far.moved.size)

      -- the next place
      pub before_next : (m : Marking) → slice_get marks k ≡ Some m → IsBeforeAt so_far.plan Q i m given held
      before_next m there = record {
        valid = so_far.valid;
        remarked = remarked_by_move so_far.plan Q places so_far.moved;
        marked = so_far.marked.each k i m at there;
        are_given = given_to_next so_far.plan Q places so_far.moved k given held so_far.retaken up i at within_before;
        are_held = held_to_next so_far.plan Q places so_far.moved k given held so_far.retaken up i at within_before;
      }

      -- and past it
      pub gone_past : (given' : List Capacity) (held' : Held) → AreGivenBetween so_far.plan Q (i + 1) given' → AreHeldBetween so_far.plan Q (i + 1) held' → HasPlanBetween Q places marks (k + 1) given' held'
      gone_past given' held' are_given are_held = record {
        plan = so_far.plan;
        valid = so_far.valid;
        moved = so_far.moved;
        marked = so_far.marked;
        retaken = retaken_past so_far.plan Q places so_far.moved k given held so_far.retaken up i at within_before given' held' are_given are_held;
      }

    -- past the last place
    module _ (all : length places ≤ k) where
      pub given_at_last : AreGivenOut Q (entries Q.workstations) given
      given_at_last = given_to_last so_far.plan Q places so_far.moved k given held so_far.retaken all

      pub held_at_last : AreHeldIn Q held
      held_at_last = held_to_last so_far.plan Q places so_far.moved k given held so_far.retaken all
