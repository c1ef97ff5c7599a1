-- Ready lists: no operation is repeated in one, and how one is made.
use Rattle.std.specs.FinMap.{entries}
use Rattle.std.proofs.Common.{◌≡◌, ◌≢◌, ◌⊎◌, inl, inr, sym, ap, subst, ◌∙◌, arith, ℕ, ◌+◌, ◌<◌, false, List, [], ◌∷◌, ◌++◌, get_or, slice_get, Contains, Some, IsPermutation}
use Rattle.std.specs.List.{AllByRecursion, AllPairs, IsDistinct}
use Rattle.std.specs.List.Sorted.{IsStrictlySortedBy}
use Rattle.std.specs.Map.{keys_of as keys_of_rows}
use Rattle.std.specs.Ordering.{eq_by_cmp}
use Rattle.std.specs.declared.cmp.Ordering.TheVariants.{Less}
use Rattle.std.proofs.lemmas.List.Elements.{Contains-append_left, Contains-get_or, Contains-push, Contains-push_cases}
use Rattle.std.proofs.lemmas.List.Quantifiers.{all_pairs_push}
use Rattle.std.proofs.lemmas.List.Sorted.{Contains-permutation, IsPermutation-sym}
use Rattle.std.proofs.lemmas.Bool.{cases_lt, false_from_ne_true}
use Rattle.plan_basics.specs.Keys.{operation_cmp, operation_cmp_total, operation_cmp-IsAntisymmetric}
use Rattle.plan_basics.specs.declared.keys.OpKey.{OpKey}
use Rattle.ready_list.specs.Choice.{operations_of}
use Rattle.ready_list.specs.Entries.{IsInOrder, keys_of}
use Rattle.ready_list.specs.Order.{ready_cmp, ready_cmp_total}
use Rattle.ready_list.specs.declared.ReadyKey.{ReadyKey}
use Rattle.ready_list.specs.declared.entry.ReadyEntry.{ReadyEntry}
use Rattle.ready_list.proofs.Steps.{AreDistinctKeys}
use Rattle.plan_model.specs.Contents.{Contents, Operation}
use Rattle.plan_model.specs.Ready.{IsEntry, IsReadyList}
use Rattle.plan_model.specs.Status.{IsReady}
use Rattle.counted_records.specs.plan_drafts.proofs.KeyPlaces.{one_place}
use Rattle.counted_records.specs.plan_drafts.proofs.Lists.{from_map, in_map}
use Rattle.counted_records.specs.plan_drafts.proofs.MadeEntries.{key_of}
use Rattle.std.proofs.lemmas.Option.{same_Some}
use Rattle.plan_basics.proofs.Members.{contains_head, contains_later}
use Rattle.counted_records.specs.plan_laws.proofs.Readying.{one_entry}
use Rattle.counted_records.specs.plan_laws.proofs.Sorted.{not_itself}
use Rattle.start_choice.specs.Choices.{AreReadyEntries}
use Rattle.start_choice.specs.ReadyItems.{AreAllReady, IsReadyEntry}
use Rattle.counted_records.specs.plan_status.proofs.RowKeys.{key_of_row}

module _ (P : Contents) where
  apart_from : (x : ReadyKey) → IsEntry P x → (xs : List ReadyKey) → ((k : ReadyKey) → Contains xs k → IsEntry P k)
      → AllByRecursion (λ y. ready_cmp x y ≡ Less) xs → AllByRecursion (λ o. eq_by_cmp operation_cmp x.op o ≡ false) (operations_of xs)
  apart_from x e [] entries less = tt
  apart_from x e (y ∷ xs) entries less = (
    false_from_ne_true (eq_by_cmp operation_cmp x.op y.op) (λ is.
        let same : x ≡ y = one_entry P x y e (entries y (contains_head y xs)) (key_of operation_cmp-IsAntisymmetric x.op y.op is) in
        not_itself ready_cmp_total x (subst (λ z. ready_cmp x z ≡ Less) (sym same) less.0)),
    apart_from x e xs (λ k has. entries k (contains_later y xs k has)) less.1,
  )

  distinct_operations : (xs : List ReadyKey) → IsStrictlySortedBy ready_cmp xs → ((k : ReadyKey) → Contains xs k → IsEntry P k) → AreDistinctKeys (operations_of xs)
  unfolding IsStrictlySortedBy IsDistinct
  distinct_operations [] sorted entries = tt
  distinct_operations (x ∷ xs) sorted entries = (
    apart_from x (entries x (contains_head x xs)) xs (λ k has. entries k (contains_later x xs k has)) sorted.0,
    distinct_operations xs sorted.1 (λ k has. entries k (contains_later x xs k has)),
  )

  -- no operation is repeated in a ready list
  pub ready_distinct : (keys : List ReadyKey) → IsReadyList P keys → AreDistinctKeys (operations_of keys)
  ready_distinct keys list = distinct_operations keys list.ascends (λ k has. (list.has_all k).0 has)

-- ---- in order

-- what is ready, put in order, is the ready list
pub list_in_order : (P : Contents) (entries new : List ReadyEntry) → AreAllReady P entries → IsPermutation entries new → IsInOrder new → AreReadyEntries P new
list_in_order P entries new all moved in_order = record {
  list = record {
    ascends = in_order;
    has_all = λ k. (
      λ has. let one = from_map (λ (e : ReadyEntry). e.key) new k has in subst (IsEntry P) one.2 (all.each one.0 (was one.0 one.1)).0,
      λ entry.
          let one = all.every k.op entry.0 in
          let same : one.0.key ≡ k = one_entry P one.0.key k (all.each one.0 one.1).0 entry one.2 in
          subst (Contains (keys_of new)) same (in_map (λ (e : ReadyEntry). e.key) new one.0 (Contains-permutation entries new one.0 moved one.1)),
    );
  };
  workstations = λ e has. (all.each e (was e has)).1;
}
  where
    was : (e : ReadyEntry) → Contains new e → Contains entries e
    was e has = Contains-permutation new entries e (IsPermutation-sym entries new moved) has

-- ---- row by row

-- what is ready among the first n rows
pub record AreReadyBelow (P : Contents) (rows : List (OpKey × Operation)) (n : ℕ) (entries : List ReadyEntry) : Type 0 where
  pub each : (e : ReadyEntry) → Contains entries e → IsReadyEntry P e
  pub places : (e : ReadyEntry) → Contains entries e → (j : ℕ) × (op : Operation) × (j < n) × (slice_get rows j ≡ Some (e.key.op, op))
  pub every : (j : ℕ) (o : OpKey) (op : Operation) → j < n → slice_get rows j ≡ Some (o, op) → IsReady P o → (e : ReadyEntry) × Contains entries e × (e.key.op ≡ o)
  pub once : AllPairs (λ a b. a.key ≢ b.key) entries

-- below the next number: below the number, or the number itself
pub below_cases : (j n : ℕ) → j < n + 1 → (j < n) ⊎ (j ≡ n)
below_cases j n h = elim (cases_lt j n) [ inl l ↦ inl l | inr g ↦ inr (omega (arith, h, g)) ]

module _ (P : Contents) (rows : List (OpKey × Operation)) (sorted : IsStrictlySortedBy operation_cmp (keys_of_rows rows))
    (n : ℕ) (entries : List ReadyEntry) (so_far : AreReadyBelow P rows n entries) (o : OpKey) (op : Operation) (at : slice_get rows n ≡ Some (o, op)) where
  -- the n-th row is that of o
  same_key_at : (j : ℕ) (q : OpKey) (oq : Operation) → j ≡ n → slice_get rows j ≡ Some (q, oq) → o ≡ q
  same_key_at j q oq e is = ap (λ (z : OpKey × Operation). z.0) (same_Some (o, op) (q, oq) (sym at ∙ ap (slice_get rows) (sym e) ∙ is))

  -- one more that isn't ready
  pub ready_pass : ¬ IsReady P o → AreReadyBelow P rows (n + 1) entries
  ready_pass not_ready = record {
    each = so_far.each;
    places = λ e has. let p = so_far.places e has in let lt = p.2 in (p.0, p.1, omega (arith, lt), p.3);
    every = λ j q oq lt is ready. elim (below_cases j n lt) [
      | inl below ↦ so_far.every j q oq below is ready
      | inr here ↦ absurd (not_ready (subst (IsReady P) (sym (same_key_at j q oq here is)) ready))
    ];
    once = so_far.once;
  }

  -- one more that is ready
  pub ready_more : (x : ReadyEntry) → x.key.op ≡ o → IsReadyEntry P x → AreReadyBelow P rows (n + 1) (entries ++ x ∷ [])
  ready_more x is_o entry = record {
    each = λ e has. elim (Contains-push_cases entries x e has) [ inl old ↦ so_far.each e old | inr new ↦ subst (IsReadyEntry P) new entry ];
    places = λ e has. elim (Contains-push_cases entries x e has) [
      | inl old ↦ let p = so_far.places e old in let lt = p.2 in (p.0, p.1, omega (arith, lt), p.3)
      | inr new ↦ (n, op, omega arith, at ∙ ap (λ z. Some (z, op)) (sym is_o ∙ ap (λ (z : ReadyEntry). z.key.op) new))
    ];
    every = λ j q oq lt is ready. elim (below_cases j n lt) [
      | inl below ↦ let one = so_far.every j q oq below is ready in (one.0, Contains-append_left entries (x ∷ []) one.0 one.1, one.2)
      | inr here ↦ (x, Contains-push entries x, is_o ∙ same_key_at j q oq here is)
    ];
    once = all_pairs_push (λ (a b : ReadyEntry). a.key ≢ b.key) entries x so_far.once (λ k d lt same. not_listed (get_or entries k d) (Contains-get_or entries k d lt) same);
  }
    where
      not_listed : (e : ReadyEntry) → Contains entries e → e.key ≢ x.key
      not_listed e has same =
          let p = so_far.places e has in
          let here : slice_get (keys_of_rows rows) p.0 ≡ Some o = key_of_row rows p.0 e.key.op p.1 p.3 ∙ ap Some (ap (λ (z : ReadyKey). z.op) same ∙ is_o) in
          let is : p.0 ≡ n = one_place operation_cmp_total (keys_of_rows rows) sorted p.0 n o here (key_of_row rows n o op at) in
          let lt = p.2 in omega (arith, is, lt)

-- past the last row
pub ready_rows : (P : Contents) (rows : List (OpKey × Operation)) (n : ℕ) (entries : List ReadyEntry)
    → ((o : OpKey) → IsReady P o → (j : ℕ) × (op : Operation) × (j < n) × (slice_get rows j ≡ Some (o, op))) → AreReadyBelow P rows n entries → AreAllReady P entries
ready_rows P rows n entries placed all = record {
  each = all.each;
  every = λ o ready. let p = placed o ready in all.every p.0 o p.1 p.2 p.3 ready;
  once = all.once;
}
