-- Numbers of operations of a plan: none is higher than that of all, and what one operation less leaves.
use Rattle.std.proofs.Common.{◌≡◌, ◌≢◌, ◌⊎◌, inl, inr, refl, sym, ap, subst, ◌∙◌, true≢false, arith, ℕ, ◌+◌, ◌<◌, ◌≤◌, Bool, false, not, List, [], ◌∷◌, length, filter, slice_get, Contains, Some, Ordering}
use Rattle.std.proofs.lemmas.List.Filters.{length-filter_both}
use Rattle.std.proofs.lemmas.List.Kept.{IsStrictlySortedBy-filter}
use Rattle.std.proofs.lemmas.Cmp.{tied_itself}
use Rattle.std.proofs.lemmas.List.Elements.{All-contains, All-from_recursion}
use Rattle.std.proofs.lemmas.Map.Entries.{length-keys_of}
use Rattle.std.specs.declared.cmp.Ordering.TheVariants.{Equal, Less}
use Rattle.plan_basics.proofs.Members.{at_place, contains_head, contains_later}
use Rattle.status_rules.specs.Classes.{is_ready}
use Rattle.status_rules.specs.declared.Status.{Status}
use Rattle.ready_list.specs.Entries.{ReadyEntries}
use Rattle.ready_list.specs.Order.{ready_cmp, ready_cmp_total}
use Rattle.ready_list.specs.declared.entry.ReadyEntry.{ReadyEntry}
use Rattle.ready_list.proofs.Indexing.{entry_cmp}
use Rattle.start_choice.specs.ReadyItems.{IsKeyIn}
use Rattle.start_choice.specs.plan_drafts.proofs.RowPlaces.{row_at}
use Rattle.start_choice.specs.plan_status.proofs.RowKeys.{key_of_row}
use Rattle.derived_figures.specs.ByStatuses.{AreEntriesBy, HasRoomForAll, IsReadyBy}
use Rattle.derived_figures.proofs.Entering.{by_entry, one_key}
use Rattle.derived_figures.proofs.Exchanged.{ready_told_then}
use Rattle.std.specs.FinMap.{entries, keys}
use Rattle.std.specs.List.Sorted.{IsStrictlySortedBy}
use Rattle.std.specs.Ordering.{eq_by_cmp}
use Rattle.plan_basics.specs.Keys.{operation_cmp, operation_cmp_total, operation_cmp-IsAntisymmetric}
use Rattle.plan_basics.specs.declared.keys.OpKey.{OpKey}
use Rattle.plan_basics.specs.declared.limits.TheConstants.{MOST_OPERATIONS}
use Rattle.ready_list.proofs.Filters.{not_false}
use Rattle.ready_list.proofs.Members.{contains_filter, contains_from_filter}
use Rattle.ready_list.specs.Choice.{is_among}
use Rattle.plan_model.proofs.Entries.{entries_in_order}
use Rattle.plan_model.proofs.Members.{if_member, in_keys, member_if}
use Rattle.plan_model.specs.Contents.{Contents, IsInPlan}
use Rattle.plan_model.specs.Valid.{IsValid}
use Rattle.start_choice.specs.plan_drafts.proofs.Tables.{itself, other_key}
use Rattle.start_choice.specs.plan_records.specs.Rows.{IsCount, IsWaitingFor}
use Rattle.start_choice.specs.plan_laws.proofs.Entries.{same_operation}
use Rattle.start_choice.specs.plan_laws.proofs.Sorted.{sorted_unique}
use Rattle.start_choice.specs.plan_laws.proofs.Waiting.{one_count}
use Rattle.start_choice.specs.plan_status.proofs.CountOneMore.{count_more}
use Rattle.start_choice.specs.plan_status.proofs.LoadedRows.{few_rows}

module _ (S : OpKey → Type 0) (ks : List OpKey) (sorted : IsStrictlySortedBy operation_cmp ks) (within : (o : OpKey) → S o → Contains ks o) where
  -- as many as these at most
  few_counted : (n : ℕ) → IsCount S n → n ≤ length ks
  few_counted n c =
      let among : List OpKey = filter (is_among c.0) ks in
      let same : c.0 ≡ among = sorted_unique operation_cmp_total c.0 among c.1 (IsStrictlySortedBy-filter operation_cmp (is_among c.0) ks sorted)
      (λ k has. contains_filter (is_among c.0) ks k (if_member operation_cmp_total c.0 k has) (within k ((c.2 k).0 has)))
      (λ k has. member_if operation_cmp-IsAntisymmetric c.0 k (contains_from_filter (is_among c.0) ks k has).1) in
      let both = length-filter_both (is_among c.0) (λ o. not (is_among c.0 o)) (λ o. refl) ks in
      omega (arith, ap length same, both, c.3)

-- no more than a plan may hold
pub few_of_plan : (P : Contents) → IsValid P → (S : OpKey → Type 0) → ((o : OpKey) → S o → IsInPlan P o) → (n : ℕ) → IsCount S n → n ≤ MOST_OPERATIONS
few_of_plan P valid S within n c =
    let le = few_counted S (keys P.operations) (entries_in_order operation_cmp P.operations) (λ o s. let h = within o s in in_keys operation_cmp-IsAntisymmetric P.operations o h.0 h.1) n c in
    omega (arith, le, few_rows P valid, length-keys_of (entries P.operations))

pub few_waiting : (P : Contents) → IsValid P → (o : OpKey) (n : ℕ) → IsWaitingFor P o n → n ≤ MOST_OPERATIONS
few_waiting P valid o n waits = few_of_plan P valid _ (λ p h. (h.0.1.0, h.0.1.1, tt)) n waits

-- one of them apart
pub count_less : (S : OpKey → Type 0) (k : OpKey) (n : ℕ) → S k → IsCount S n → (m : ℕ) × (n ≡ m + 1) × IsCount (λ o. S o × (o ≢ k)) m
count_less S k n this c = (length others, one_count S n (length others + 1) c (count_more {S = λ o. S o × (o ≢ k)} {T = S} k (λ h. h.1 refl) this (λ o h. h.0) parts rest), rest)
  where
    is_other : OpKey → Bool
    is_other o = not (eq_by_cmp operation_cmp o k)

    others : List OpKey
    others = filter is_other c.0

    parts : (o : OpKey) → S o → (S o × (o ≢ k)) ⊎ (k ≡ o)
    parts o s = elim (same_operation k o) [ inl e ↦ inr e | inr apart ↦ inl (s, λ e. apart (sym e)) ]

    there : (o : OpKey) → Contains others o → S o × (o ≢ k)
    there o has =
        let wait_states = contains_from_filter is_other c.0 o has in
        ((c.2 o).0 wait_states.0, λ e. true≢false (sym wait_states.1 ∙ ap not (ap (λ z. eq_by_cmp operation_cmp z k) e ∙ itself operation_cmp_total operation_cmp-IsAntisymmetric k)))

    back : (o : OpKey) → S o × (o ≢ k) → Contains others o
    back o h = contains_filter is_other c.0 o (not_false (eq_by_cmp operation_cmp o k) (other_key operation_cmp_total operation_cmp-IsAntisymmetric o k h.1)) ((c.2 o).1 h.0)

    rest : IsCount (λ o. S o × (o ≢ k)) (length others)
    rest = (others, IsStrictlySortedBy-filter operation_cmp is_other c.0 c.1, λ o. (there o, back o), refl)

-- ---- entries of a ready list

-- one less than all, without one of them
fewer_without : (k : OpKey) (ks : List OpKey) → Contains ks k → length (filter (λ o. not (eq_by_cmp operation_cmp o k)) ks) + 1 ≤ length ks
fewer_without k ks has =
    let both = length-filter_both (λ o. eq_by_cmp operation_cmp o k) (λ o. not (eq_by_cmp operation_cmp o k)) (λ o. refl) ks in
    let there = contains_filter (λ o. eq_by_cmp operation_cmp o k) ks k (itself operation_cmp_total operation_cmp-IsAntisymmetric k) has in
    omega (arith, both, there.1)

there_without : (k : OpKey) (ks : List OpKey) (o : OpKey) → Contains ks o → o ≢ k → Contains (filter (λ o. not (eq_by_cmp operation_cmp o k)) ks) o
there_without k ks o has apart = contains_filter (λ o. not (eq_by_cmp operation_cmp o k)) ks o (not_false (eq_by_cmp operation_cmp o k) (other_key operation_cmp_total operation_cmp-IsAntisymmetric o k apart)) has

-- a later one in order has another key
key_apart : (e : ReadyEntry) (es : List ReadyEntry) → IsStrictlySortedBy entry_cmp (e ∷ es) → (x : ReadyEntry) → Contains es x → x.key ≢ e.key
unfolding IsStrictlySortedBy
key_apart e es sorted x has is =
    let less : entry_cmp e x ≡ Less = All-contains (λ y. entry_cmp e y ≡ Less) es x (All-from_recursion (λ y. entry_cmp e y ≡ Less) es sorted.0) has in
    let tied = tied_itself ready_cmp_total e.key in
    absurd (less_not_equal (ap (ready_cmp e.key) is ∙ tied) less)
  where
    less_not_equal : {r : Ordering} → r ≡ Equal → r ≡ Less → ⊥
    less_not_equal a b = cc

-- entries of these operations are no more than there are of these
few_entries : (P : Contents) (es : List ReadyEntry) (ks : List OpKey) → IsStrictlySortedBy entry_cmp es → ((e : ReadyEntry) → Contains es e → IsKeyIn P e.key × Contains ks e.key.op) → length es ≤ length ks
unfolding IsStrictlySortedBy
few_entries P [] ks sorted each = omega arith
few_entries P (e ∷ es) ks sorted each =
    let here = each e (contains_head e es) in
    let fewer = fewer_without e.key.op ks here.1 in
    let rest = few_entries P es (filter (λ o. not (eq_by_cmp operation_cmp o e.key.op)) ks) sorted.1 (λ x has.
    let it = each x (contains_later e es x has) in
    (it.0, there_without e.key.op ks x.key.op it.1 (λ same. key_apart e es sorted x has (one_key P x.key e.key it.0 here.0 same)))) in
    omega (arith, fewer, rest)

-- where an operation isn't ready by the statuses, there is room for its entry
pub room_for_one : (P : Contents) (statuses : List Status) (ready : ReadyEntries) → AreEntriesBy P statuses ready.entries → HasRoomForAll P ready
    → (place : ℕ) → place < length (entries P.operations) → (old : Status) → slice_get statuses place ≡ Some old → is_ready old ≡ false → 0 < ready.room
room_for_one P statuses ready are room place lt old was not_ready =
    let es = ready.entries in
    let ks = keys P.operations in
    let row = row_at (entries P.operations) place lt in
    let k = row.0.0 in
    let at : slice_get ks place ≡ Some k = key_of_row (entries P.operations) place k row.0.1 row.1 in
    let fewer = fewer_without k ks (at_place ks place k at) in
    let few = few_entries P es (filter (λ o. not (eq_by_cmp operation_cmp o k)) ks) (by_entry es are.in_order) (λ e has.
    let it = are.each e has in
    let listed = it.1.1 in (
      it.0.0,
      there_without k ks e.key.op (at_place ks listed.0 e.key.op listed.1) (λ same.
          true≢false (sym (ready_told_then ks (entries_in_order operation_cmp P.operations) statuses place k at old old was (subst (IsReadyBy ks statuses) same it.1)) ∙ not_ready)),
    )) in
    omega (arith, fewer, few, room, length-keys_of (entries P.operations))
