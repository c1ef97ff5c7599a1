-- A row more among rows in order, or another in its place.
use Rattle.std.proofs.Common.{◌≡◌, ◌≢◌, ◌↔◌, ◌⊎◌, inl, inr, refl, sym, ap, subst, ◌∙◌, true≢false, arith, ℕ, zero, suc, ◌+◌, ◌<◌, ◌≤◌, Bool, true, false, cond, List, [], ◌∷◌, length, get_or, set, slice_get, Some, None, is_some, not, Ok, Err}
use Rattle.std.specs.Cmp.{IsTotalOrder}
use Rattle.std.specs.FinMap.{IsAntisymmetric, contains_key, from_entries, get, get-insert, len, len-insert}
use Rattle.std.specs.FinMap as map
use Rattle.std.specs.List.{insert}
use Rattle.std.specs.List.Sorted.{IsBinarySearchResult, IsSearchInRange, IsStrictlySortedBy}
use Rattle.std.specs.Map.{keys_of}
use Rattle.std.specs.Ordering.{eq_by_cmp}
use Rattle.std.specs.declared.cmp.Ordering.{Ordering}
use Rattle.std.proofs.lemmas.Bool.{cases_lt}
use Rattle.std.proofs.lemmas.List.{get_or-map}
use Rattle.std.proofs.lemmas.List.Sorted.{Contains-permutation, IsPermutation-insert, IsPermutation-sym}
use Rattle.std.proofs.lemmas.Map.Entries.{length-keys_of}
use Rattle.std.proofs.lemmas.Option.{none-some, same_Some}
use Rattle.plan_laws.specs.ready_list.proofs.Ordered.{comparisons_rise, sorted_by_keys}
use Rattle.plan_basics.proofs.Members.{tied_is}
use Rattle.plan_basics.specs.Keys.{Name, name_cmp, name_cmp_total, name_cmp-IsAntisymmetric}
use Rattle.plan_basics.specs.declared.limits.TheConstants.{MOST_TRACKERS}
use Rattle.plan_laws.specs.plan_drafts.proofs.Held.{absent_in, looked_up, put_in_order, put_is}
use Rattle.plan_laws.specs.plan_drafts.proofs.Lists.{all_by_members}
use Rattle.plan_laws.specs.plan_drafts.proofs.OnePair.{inserted_in_order}
use Rattle.plan_laws.specs.plan_drafts.proofs.Orders.{differ_permuted}
use Rattle.plan_laws.specs.plan_drafts.proofs.RowPlaces.{len-from_entries, search_finds, search_misses}
use Rattle.plan_laws.specs.plan_drafts.proofs.Tables.{AreApart, get_row, row_found, rows_apart, same_entries}
use Rattle.plan_laws.proofs.Receipts.{empty_is_desk_state}
use Rattle.plan_laws.specs.plan_records.specs.Receipts.{AreReceipts, IsReceipt}
use Rattle.plan_laws.specs.plan_records.specs.Step.{Receipt, Receipts}

module _ {K X : Type 0} {R : K → K → Ordering} (total : IsTotalOrder R) (exact : IsAntisymmetric R) (rows : List (K × X)) (up : IsStrictlySortedBy R (keys_of rows)) (k : K) (x : X) where
  -- ---- where a search has missed its key
  module _ (i : ℕ) (within : i ≤ length rows) (missed : IsBinarySearchResult (λ row. R row.0 k) rows (Err i)) where
    among_keys : IsBinarySearchResult (λ y. R y k) (keys_of rows) (Err i)
    among_keys = λ _.
        let point = missed (comparisons_rise (λ (row : K × X). row.0) total rows (sorted_by_keys (λ (row : K × X). row.0) R rows up) k) in
        let long = length-keys_of rows in (
          λ j d low high. ap (λ y. R y k) (get_or-map (λ (row : K × X). row.0) rows j (d, x) d (omega (arith, within, high))) ∙ point.0 j (d, x) low high,
          λ j d low high. let lt : j < length rows = omega (arith, long, high) in ap (λ y. R y k) (get_or-map (λ (row : K × X). row.0) rows j (d, x) d lt) ∙ point.1 j (d, x) low lt,
        )

    pub insert_in_order : IsStrictlySortedBy R (keys_of (insert rows i (k, x)))
    insert_in_order =
        subst (IsStrictlySortedBy R) (sym (keys-insert rows i))
        (inserted_in_order total exact (keys_of rows) k i up (let long = length-keys_of rows in omega (arith, long, within)) among_keys)
      where
        keys-insert : (rs : List (K × X)) (j : ℕ) → keys_of (insert rs j (k, x)) ≡ insert (keys_of rs) j k
        keys-insert rs zero = refl
        keys-insert [] (suc j) = refl
        keys-insert (r ∷ rs) (suc j) = ap (λ ks. r.0 ∷ ks) (keys-insert rs j)

  -- the key is nobody's
  module _ (new : get {R = R} (from_entries rows) k ≡ None) where
    apart : AreApart ((k, x) ∷ rows)
    apart = (
      all_by_members (λ b. k ≢ b.0) rows (λ b has same. none-some b.1 (sym new ∙ ap (get {R = R} (from_entries rows)) same ∙ get_row total exact rows b.0 b.1 (rows_apart total exact rows up) has)),
      rows_apart total exact rows up,
    )

    -- the map has one entry more
    pub insert_is : (i : ℕ) → from_entries {R = R} (insert rows i (k, x)) ≡ map.insert (from_entries rows) k x
    insert_is i =
        let same = IsPermutation-insert rows i (k, x) in
        let in_order = differ_permuted total exact (λ (row : K × X). row.0) ((k, x) ∷ rows) (insert rows i (k, x)) same apart in
        same_entries total exact (from_entries (insert rows i (k, x))) (from_entries ((k, x) ∷ rows))
        (λ q v e. get_row total exact ((k, x) ∷ rows) q v apart (Contains-permutation (insert rows i (k, x)) ((k, x) ∷ rows) (q, v) (IsPermutation-sym ((k, x) ∷ rows) (insert rows i (k, x)) same) (row_found total exact (insert rows i (k, x)) q v e)))
        (λ q v e. get_row total exact (insert rows i (k, x)) q v in_order (Contains-permutation ((k, x) ∷ rows) (insert rows i (k, x)) (q, v) same (row_found total exact ((k, x) ∷ rows) q v e)))

-- ---- well formed receipts

pub none_legal : AreReceipts true map.empty
none_legal = record { each = empty_is_desk_state.1.each; few = empty_is_desk_state.1.few; before_load = λ h. absurd (true≢false h) }

module _ (T : Receipts) (k : Name) (r : Receipt) (were : AreReceipts true T) (legal : IsReceipt k r) (room : (contains_key T k ≡ true) ⊎ (len T < MOST_TRACKERS)) where
  each_with : (tracker : Name) (receipt : Receipt) (b : Bool) → eq_by_cmp name_cmp tracker k ≡ b → cond b (Some r) (get T tracker) ≡ Some receipt → IsReceipt tracker receipt
  each_with tracker receipt true tied e = subst (λ z. IsReceipt z receipt) (sym (tied_is name_cmp-IsAntisymmetric tracker k tied)) (subst (IsReceipt k) (same_Some r receipt e) legal)
  each_with tracker receipt false tied e = were.each tracker receipt e

  few_with : (b : Bool) → contains_key T k ≡ b → cond b (len T) (len T + 1) ≤ MOST_TRACKERS
  few_with true has = were.few
  few_with false has = elim room [ inl known ↦ absurd (true≢false (sym known ∙ has)) | inr less ↦ omega (arith, less) ]

  pub one_more_legal : AreReceipts true (map.insert T k r)
  one_more_legal = record {
    each = λ tracker receipt e. each_with tracker receipt (eq_by_cmp name_cmp tracker k) refl (sym (get-insert name_cmp_total T k r tracker) ∙ e);
    few = rw (len-insert name_cmp_total T k r) (few_with (contains_key T k) refl);
    before_load = λ h. absurd (true≢false h);
  }

-- what has no receipt finds room where there is any
pub room_for_new : (T : Receipts) (k : Name) → (contains_key T k ≡ true) ⊎ (len T < MOST_TRACKERS) → get T k ≡ None → len T < MOST_TRACKERS
room_for_new T k (inl known) new = absurd (true≢false (sym known ∙ ap is_some new))
room_for_new T k (inr less) new = less

-- what isn't full has room
pub not_full : (full : Bool) (n : ℕ) (P : Type 0) → ((full ≡ true) ↔ (MOST_TRACKERS ≤ n)) → P → (not full ≡ true) ↔ (P × (n < MOST_TRACKERS))
not_full true n P told p = (λ e. absurd (true≢false (sym e)), λ h. absurd (let much = told.0 refl in omega (arith, h.1, much)))
not_full false n P told p = (
  λ _. (p, elim (cases_lt n MOST_TRACKERS) [ inl less ↦ less | inr much ↦ absurd (true≢false (sym (told.1 much))) ]),
  λ _. refl,
)

-- ---- rows that are searched for a tracker

module _ (ds rows : List (Name × Receipt)) (same : ds ≡ rows) (T : Receipts) (is : from_entries rows ≡ T) (up : IsStrictlySortedBy name_cmp (keys_of rows)) (k : Name) where
  ds_up : IsStrictlySortedBy name_cmp (keys_of ds)
  ds_up = subst (λ rs. IsStrictlySortedBy name_cmp (keys_of rs)) (sym same) up

  pub row_count : len T ≡ length rows
  row_count = ap len (sym is) ∙ len-from_entries name_cmp name_cmp_total name_cmp-IsAntisymmetric rows up

  module _ (i : ℕ) where
    -- the search ended with an index
    module _ (bound : IsSearchInRange (Ok i) (length ds)) (position : IsBinarySearchResult (λ row. name_cmp row.0 k) ds (Ok i)) where
      pub found_row : (r : Receipt) × (slice_get ds i ≡ Some (k, r))
      found_row = search_finds name_cmp name_cmp_total name_cmp-IsAntisymmetric ds ds_up k (Ok i) bound position (Some i) refl

      pub receipt_read : (read : Name × Receipt) → read ≡ get_or rows i read → get T k ≡ Some read.1
      receipt_read = looked_up name_cmp_total name_cmp-IsAntisymmetric ds rows same T is up k i found_row

      pub set_in_order : (r : Receipt) → IsStrictlySortedBy name_cmp (keys_of (set rows i (k, r)))
      set_in_order = put_in_order name_cmp_total name_cmp-IsAntisymmetric ds rows same T is up k i found_row

      pub set_is : (r : Receipt) → from_entries {R = name_cmp} (set rows i (k, r)) ≡ map.insert T k r
      set_is r = put_is name_cmp_total name_cmp-IsAntisymmetric ds rows same T is up k i found_row r ∙ ap (λ m. map.insert m k r) is

    -- it ended without
    module _ (bound : IsSearchInRange (Err i) (length ds)) (position : IsBinarySearchResult (λ row. name_cmp row.0 k) ds (Err i)) where
      pub no_receipt_of : get T k ≡ None
      no_receipt_of =
          absent_in name_cmp_total name_cmp-IsAntisymmetric ds rows same T is up k
          (search_misses name_cmp name_cmp_total name_cmp-IsAntisymmetric ds ds_up k (Err i) bound position None refl refl)

      pub inserted_up : (r : Receipt) → IsStrictlySortedBy name_cmp (keys_of (insert rows i (k, r)))
      inserted_up r =
          insert_in_order name_cmp_total name_cmp-IsAntisymmetric rows up k r i (subst (λ (rs : List (Name × Receipt)). i ≤ length rs) same bound)
          (subst (λ (rs : List (Name × Receipt)). IsBinarySearchResult (λ row. name_cmp row.0 k) rs (Err i)) same position)

      pub inserted_is : (r : Receipt) → from_entries {R = name_cmp} (insert rows i (k, r)) ≡ map.insert T k r
      inserted_is r = insert_is name_cmp_total name_cmp-IsAntisymmetric rows up k r (ap (λ m. get m k) is ∙ no_receipt_of) i ∙ ap (λ m. map.insert m k r) is
