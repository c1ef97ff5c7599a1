-- Indices at which an operation comes to wait for nothing: as many as fewer wait.
use Rattle.std.proofs.Common.{◌≡◌, ◌⊎◌, inl, inr, ap, arith, ℕ, ◌+◌, ◌<◌, ◌≤◌, true, false, List, length, Contains, filter}
use Rattle.std.specs.List.Sorted.{IsStrictlySortedBy}
use Rattle.std.specs.Ordering.{nat_cmp}
use Rattle.std.proofs.lemmas.Bool.{cases_Bool, cases_eq, cases_lt}
use Rattle.std.proofs.lemmas.List.Kept.{IsStrictlySortedBy-filter}
use Rattle.operation_graph.proofs.Counts.{contains_counted, counted_contains}
use Rattle.operation_graph.proofs.Telling.{Told, if_told, is_told, told_if}
use Rattle.operation_graph.specs.Adjacency.{count_of}
use Rattle.satisfaction.proofs.Counting.{fewer_waiting, free_is_none, one_if_waiting_at_most, satisfied_is_none, waiting_is_one}
use Rattle.satisfaction.specs.Counters.{wait_state_at, one_if_waiting, waiting_count}
use Rattle.satisfaction.specs.declared.nodes.WaitState.{WaitState}
use Rattle.ready_list.proofs.Members.{contains_filter, contains_from_filter}

-- whether one number is below another
told_below : (m n : ℕ) → Told (m < n)
told_below m n = elim (cases_lt m n) [ inl lt ↦ inl lt | inr ge ↦ inr (λ lt. omega (arith, lt, ge)) ]

-- it waited and doesn't any more: it wasn't satisfied, waited for some, and now is satisfied or waits for none
pub record IsFreed (before after : WaitState) : Type 0 where
  pub unsatisfied : before.satisfied ≡ false
  pub waited : 0 < before.waiting
  pub now : (after.satisfied ≡ true) ⊎ (after.waiting ≡ 0)

freed : (before after : WaitState) → one_if_waiting after < one_if_waiting before → IsFreed before after
freed before after less = record { unsatisfied = off; waited = waits; now = free }
  where
    off : before.satisfied ≡ false
    off = elim (cases_Bool before.satisfied) [ inl on ↦ absurd (omega (arith, less, satisfied_is_none before on)) | inr none ↦ none ]

    waits : 0 < before.waiting
    waits = elim (cases_eq before.waiting 0) [ inl none ↦ absurd (omega (arith, less, free_is_none before none)) | inr some ↦ omega (arith, some) ]

    free : (after.satisfied ≡ true) ⊎ (after.waiting ≡ 0)
    free = elim (cases_Bool after.satisfied) [
      | inl on ↦ inl on
      | inr none ↦ elim (cases_eq after.waiting 0) [ inl zero ↦ inr zero | inr some ↦ absurd (omega (arith, less, one_if_waiting_at_most before, waiting_is_one after none (omega (arith, some)))) ]
    ]

module _ (before after : List WaitState) (places : List ℕ) where
  pub told_freed : (i : ℕ) → Told (one_if_waiting (wait_state_at after i) < one_if_waiting (wait_state_at before i))
  told_freed i = told_below (one_if_waiting (wait_state_at after i)) (one_if_waiting (wait_state_at before i))

  -- those of these places at which it waited and doesn't any more
  abbrev pub freed_among : List ℕ
  freed_among = filter (λ i. is_told (told_freed i)) places

  pub freed_ascend : IsStrictlySortedBy nat_cmp places → IsStrictlySortedBy nat_cmp freed_among
  freed_ascend = IsStrictlySortedBy-filter nat_cmp (λ i. is_told (told_freed i)) places

  pub from_freed : (i : ℕ) → Contains freed_among i → Contains places i × IsFreed (wait_state_at before i) (wait_state_at after i)
  from_freed i has =
      let r = contains_from_filter (λ j. is_told (told_freed j)) places i has in
      (r.0, freed (wait_state_at before i) (wait_state_at after i) (if_told (told_freed i) r.1))

  pub few_freed : length before ≡ length after → ((i : ℕ) → ¬ Contains places i → wait_state_at after i ≡ wait_state_at before i) → waiting_count before ≤ waiting_count after + length freed_among
  few_freed size same = fewer_waiting before after freed_among size (λ i lt out. elim (cases_lt (one_if_waiting (wait_state_at after i)) (one_if_waiting (wait_state_at before i))) [
    | inr le ↦ le
    | inl less ↦ elim (cases_eq (count_of i places) 0) [
      | inl none ↦ omega (arith, ap one_if_waiting (same i (λ has. omega (arith, none, contains_counted i places has))))
      | inr some ↦ absurd (out (contains_filter (λ j. is_told (told_freed j)) places i (told_if (told_freed i) less) (counted_contains i places (omega (arith, some)))))
    ]
  ])
