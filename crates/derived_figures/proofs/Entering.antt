-- The ready list, once an operation has another status.
use Rattle.std.proofs.Common.{◌≡◌, ◌≢◌, ◌⊎◌, inl, inr, refl, sym, ap, subst, ◌∙◌, true≢false, arith, ℕ, ◌+◌, ◌≤◌, Bool, true, false, not, List, ◌∷◌, filter, length, set, slice_get, Contains, Some}
use Rattle.std.proofs.lemmas.List.Elements.{Contains-append_cases, Contains-append_left, Contains-append_right}
use Rattle.std.proofs.lemmas.List.Filters.{length-filter_both}
use Rattle.std.proofs.lemmas.List.Kept.{IsStrictlySortedBy-filter}
use Rattle.std.proofs.lemmas.Option.{same_Some}
use Rattle.std.specs.FinMap.{entries, keys}
use Rattle.std.specs.List.Sorted.{IsStrictlySortedBy}
use Rattle.plan_basics.specs.Keys.{operation_cmp}
use Rattle.plan_basics.specs.declared.keys.OpKey.{OpKey}
use Rattle.plan_basics.proofs.Members.{contains_cases, contains_head, contains_later}
use Rattle.status_rules.specs.Classes.{is_ready}
use Rattle.status_rules.specs.declared.Status.{Status}
use Rattle.ready_list.specs.Entries.{IsInOrder, comes_before, has_key, with_entry, without}
use Rattle.ready_list.specs.Order.{ready_cmp, ready_cmp_total}
use Rattle.ready_list.specs.declared.ReadyKey.{ReadyKey}
use Rattle.ready_list.specs.declared.entry.ReadyEntry.{ReadyEntry}
use Rattle.ready_list.proofs.Filters.{false_from_not, not_false}
use Rattle.ready_list.proofs.Indexing.{Entries, entry_cmp, length_placed}
use Rattle.ready_list.proofs.Members.{all_by_members, contains_filter, contains_from_filter, has_its_key, none_without, other_key}
use Rattle.ready_list.proofs.Ordered.{keys_sorted, sorted_by_keys, sorted_placed}
use Rattle.plan_model.proofs.Entries.{entries_in_order}
use Rattle.plan_model.specs.Contents.{Contents, Operation}
use Rattle.plan_model.specs.declared.Occurrence.{Occurrence}
use Rattle.start_choice.specs.plan_laws.proofs.Entries.{same_operation}
use Rattle.start_choice.specs.plan_laws.proofs.Latest.{one_latest_start}
use Rattle.start_choice.specs.plan_status.proofs.RowKeys.{key_of_row}
use Rattle.start_choice.specs.ReadyItems.{IsEntryIn, IsKeyIn}
use Rattle.derived_figures.specs.ByStatuses.{AreEntriesBy, IsReadyBy}
use Rattle.derived_figures.proofs.Exchanged.{ready_after, ready_already, ready_before, ready_now, ready_still, ready_told_now}

-- ---- lists in order

abbrev its_key : ReadyEntry → ReadyKey
its_key e = e.key

pub by_entry : (es : Entries) → IsInOrder es → IsStrictlySortedBy entry_cmp es
by_entry es in_order = sorted_by_keys its_key ready_cmp es in_order

in_order_without : (k : ReadyKey) (es : Entries) → IsInOrder es → IsInOrder (without k es)
in_order_without k es in_order = keys_sorted its_key ready_cmp (without k es) (IsStrictlySortedBy-filter entry_cmp (λ e. not (has_key k e)) es (by_entry es in_order))

in_order_with : (x : ReadyEntry) (es : Entries) → IsInOrder es → IsInOrder (with_entry x (without x.key es))
in_order_with x es in_order =
    let others = without x.key es in
    keys_sorted its_key ready_cmp (with_entry x others)
    (sorted_placed its_key ready_cmp_total x others (by_entry others (in_order_without x.key es in_order))
    (all_by_members (λ y. has_key x.key y ≡ false) others (λ y has. other_key y x.key (λ is. none_without x.key es (y, has, is)))))

-- ---- how many there are

pub length_left : (k : ReadyKey) (es : Entries) → length (without k es) ≤ length es
length_left k es = let parts = length-filter_both (λ (e : ReadyEntry). not (has_key k e)) (λ e. not (not (has_key k e))) (λ e. refl) es in omega (arith, parts)

pub length_put : (x : ReadyEntry) (es : Entries) → length (with_entry x (without x.key es)) ≤ length es + 1
length_put x es = omega (arith, length_placed (comes_before x.key) x (without x.key es), length_left x.key es)

-- ---- members

left_by : (k : ReadyKey) (es : Entries) (e : ReadyEntry) → Contains (without k es) e → Contains es e × (e.key ≢ k)
left_by k es e has =
    let wait_states = contains_from_filter (λ (x : ReadyEntry). not (has_key k x)) es e has in
    (wait_states.0, λ is. true≢false (sym (has_its_key e k is) ∙ false_from_not (has_key k e) wait_states.1))

left_in : (k : ReadyKey) (es : Entries) (e : ReadyEntry) → Contains es e → e.key ≢ k → Contains (without k es) e
left_in k es e has apart = contains_filter (λ (x : ReadyEntry). not (has_key k x)) es e (not_false (has_key k e) (other_key e k apart)) has

put_cases : (x : ReadyEntry) (es : Entries) (e : ReadyEntry) → Contains (with_entry x es) e → (x ≡ e) ⊎ Contains es e
put_cases x es e has = elim (Contains-append_cases (filter (comes_before x.key) es) (x ∷ filter (λ y. not (comes_before x.key y)) es) e has) [
  | inl front ↦ inr (contains_from_filter (comes_before x.key) es e front).0
  | inr back ↦ elim (contains_cases x (filter (λ y. not (comes_before x.key y)) es) e back) [
    | inl is ↦ inl is
    | inr later ↦ inr (contains_from_filter (λ y. not (comes_before x.key y)) es e later).0
  ]
]

put_there : (x : ReadyEntry) (es : Entries) → Contains (with_entry x es) x
put_there x es = Contains-append_right (filter (comes_before x.key) es) (x ∷ filter (λ y. not (comes_before x.key y)) es) x (contains_head x (filter (λ y. not (comes_before x.key y)) es))

put_beside : (x : ReadyEntry) (es : Entries) (e : ReadyEntry) → Contains es e → Contains (with_entry x es) e
put_beside x es e has = by_test (comes_before x.key e) refl
  where
    by_test : (b : Bool) → comes_before x.key e ≡ b → Contains (with_entry x es) e
    by_test true t = Contains-append_left (filter (comes_before x.key) es) (x ∷ filter (λ y. not (comes_before x.key y)) es) e (contains_filter (comes_before x.key) es e t has)
    by_test false t =
        Contains-append_right (filter (comes_before x.key) es) (x ∷ filter (λ y. not (comes_before x.key y)) es) e
        (contains_later x (filter (λ y. not (comes_before x.key y)) es) e (contains_filter (λ y. not (comes_before x.key y)) es e (not_false (comes_before x.key e) t) has))

-- ---- keys

-- an operation has one key at most
pub one_key : (P : Contents) (a b : ReadyKey) → IsKeyIn P a → IsKeyIn P b → a.op ≡ b.op → a ≡ b
one_key P a b x y e =
    let y' : IsKeyIn P (record b { op = a.op }) = subst (λ o. IsKeyIn P (record b { op = o })) (sym e) y in
    let latest : a.latest ≡ b.latest = one_latest_start P a.op a.latest b.latest x.0 y'.0 in
    let op : x.1.0 ≡ y'.1.0 = same_Some x.1.0 y'.1.0 (sym x.1.1 ∙ y'.1.1) in
    let duration : a.duration ≡ b.duration = x.1.2 ∙ ap (λ (z : Operation). z.duration) op ∙ sym y'.1.2 in
    let occurrence : x.2.0 ≡ y'.2.0 = same_Some x.2.0 y'.2.0 (sym x.2.1 ∙ y'.2.1) in
    let priority : a.priority ≡ b.priority = x.2.2 ∙ ap (λ (z : Occurrence). z.priority) occurrence ∙ sym y'.2.2 in
    λ i. record { latest = latest i; priority = priority i; duration = duration i; op = e i }

-- ---- entries

module _ (P : Contents) (statuses : List Status) (es : List ReadyEntry) (are : AreEntriesBy P statuses es)
    (place : ℕ) (k : OpKey) (op : Operation) (row : slice_get (entries P.operations) place ≡ Some (k, op))
    (old new : Status) (was : slice_get statuses place ≡ Some old) where
  abbrev ks : List OpKey
  ks = keys P.operations

  abbrev sorted : IsStrictlySortedBy operation_cmp ks
  sorted = entries_in_order operation_cmp P.operations

  abbrev at : slice_get ks place ≡ Some k
  at = key_of_row (entries P.operations) place k op row

  -- it stays listed, or unlisted
  pub entries_stay : is_ready old ≡ is_ready new → AreEntriesBy P (set statuses place new) es
  entries_stay e = record {
    in_order = are.in_order;
    each = λ x has. let it = are.each x has in (it.0, ready_still ks sorted statuses place k at old new was e x.key.op it.1);
    every = λ o ready. are.every o (ready_already ks sorted statuses place k at old new was e o ready);
  }

  -- it isn't ready any more
  pub entry_taken : is_ready new ≡ false → (x : ReadyKey) → x.op ≡ k → IsKeyIn P x → AreEntriesBy P (set statuses place new) (without x es)
  entry_taken not_now x is_its key = record {
    in_order = in_order_without x es are.in_order;
    each = λ e has.
        let left = left_by x es e has in
        let it = are.each e left.0 in
        let apart : e.key.op ≢ k = λ same. left.1 (one_key P e.key x it.0.0 key (same ∙ sym is_its)) in
        (it.0, ready_after ks sorted statuses place k at old new was e.key.op apart it.1);
    every = λ o ready.
        let apart : o ≢ k = λ same. true≢false (sym (ready_told_now ks sorted statuses place k at old new was (subst (IsReadyBy ks (set statuses place new)) same ready)) ∙ not_now) in
        let one = are.every o (ready_before ks sorted statuses place k at old new was o apart ready) in
        (one.0, left_in x es one.0 one.1 (λ same. apart (sym one.2 ∙ ap (λ (z : ReadyKey). z.op) same ∙ is_its)), one.2);
  }

  -- it is ready now
  pub entry_put : is_ready new ≡ true → (x : ReadyEntry) → x.key.op ≡ k → IsEntryIn P x → AreEntriesBy P (set statuses place new) (with_entry x (without x.key es))
  entry_put now x is_its entry = record {
    in_order = in_order_with x es are.in_order;
    each = λ e has. elim (put_cases x (without x.key es) e has) [
      | inl this ↦
          subst (λ z. IsEntryIn P z × IsReadyBy ks (set statuses place new) z.key.op) this
          (entry, subst (IsReadyBy ks (set statuses place new)) (sym is_its) (ready_now ks sorted statuses place k at old new was now))
      | inr among ↦
          let left = left_by x.key es e among in
          let it = are.each e left.0 in
          let apart : e.key.op ≢ k = λ same. left.1 (one_key P e.key x.key it.0.0 entry.0 (same ∙ sym is_its)) in
          (it.0, ready_after ks sorted statuses place k at old new was e.key.op apart it.1)
    ];
    every = λ o ready. elim (same_operation o k) [
      | inl same ↦ (x, put_there x (without x.key es), is_its ∙ sym same)
      | inr apart ↦
          let one = are.every o (ready_before ks sorted statuses place k at old new was o apart ready) in
          let left = left_in x.key es one.0 one.1 (λ same. apart (sym one.2 ∙ ap (λ (z : ReadyKey). z.op) same ∙ is_its)) in
          (one.0, put_beside x (without x.key es) one.0 left, one.2)
    ];
  }
