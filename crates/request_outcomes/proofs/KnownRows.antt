-- Rows of operations that a plan has, among those that change.
use Rattle.std.proofs.Common.{◌≡◌, refl, sym, ap, ◌∙◌, arith, ◌+◌, ◌≤◌, Bool, true, false, cond, true≢false, List, [], ◌∷◌, length, map, filter, count_by, Contains}
use Rattle.std.specs.FinMap.{contains_key, contains_key-keys, entries, keys, len-entries}
use Rattle.std.specs.List.Sorted.{IsStrictlySortedBy}
use Rattle.std.proofs.lemmas.Cmp.{eq_by_cmp_equiv}
use Rattle.std.proofs.lemmas.List.Kept.{IsStrictlySortedBy-filter}
use Rattle.std.proofs.lemmas.List.Sums.{length-filter, sum_by-cons}
use Rattle.std.proofs.lemmas.Map.Keys.{IsDistinct-from_sorted}
use Rattle.std.proofs.lemmas.Map.Made.{length-le_from_is_member}
use Rattle.plan_basics.specs.declared.limits.TheConstants.{MOST_OPERATIONS}
use Rattle.plan_basics.specs.Keys.{operation_cmp, operation_cmp-IsAntisymmetric}
use Rattle.plan_drafts.proofs.Lists.{in_map, length_map}
use Rattle.plan_drafts.specs.RowKeys.{row_cmp-IsAntisymmetric, row_cmp_total}
use Rattle.plan_drafts.specs.declared.RowKey.{RowKey}
use Rattle.plan_drafts.specs.declared.RowKey.TheVariants as key
use Rattle.plan_model.proofs.Entries.{keys_of-entries}
use Rattle.plan_model.proofs.Members.{if_member, member_if}
use Rattle.plan_model.specs.Contents.{Contents}
use Rattle.plan_model.specs.Valid.{IsSound}
use Rattle.plan_model.specs.ready_list.proofs.Members.{contains_from_filter}
use Rattle.plan_records.specs.Rows.{key_of, row_cmp}
use Rattle.plan_records.specs.declared.PlanRow.{PlanRow}
use Rattle.plan_records.specs.declared.PlanRow.TheVariants as row
use Rattle.request_outcomes.specs.Looked.{is_known_operation}

module _ (P : Contents) where
  -- whether it is the key of an operation of P
  abbrev is_known : RowKey → Bool
  is_known (key.Operation o) = contains_key P.operations o
  is_known _ = false

  told_by_key : (r : PlanRow) → is_known_operation P r ≡ is_known (key_of r)
  told_by_key (row.Meta version loaded clock) = refl
  told_by_key (row.Workstation name a) = refl
  told_by_key (row.Interval w i) = refl
  told_by_key (row.Resource name available) = refl
  told_by_key (row.Occurrence c priority deadline status) = refl
  told_by_key (row.Operation r) = refl
  told_by_key (row.Dependency p s) = refl
  told_by_key (row.Need o r mode keep) = refl
  told_by_key (row.Quantity r quantity) = refl
  told_by_key (row.Amount o r amount) = refl

  known : (k : RowKey) → is_known k ≡ true → Contains (map key.Operation (keys P.operations)) k
  known (key.Operation o) h = in_map key.Operation (keys P.operations) o (member_if operation_cmp-IsAntisymmetric (keys P.operations) o (sym (contains_key-keys P.operations o) ∙ h))
  known key.Meta h = absurd (true≢false (sym h))
  known (key.Workstation name) h = absurd (true≢false (sym h))
  known (key.Interval name from) h = absurd (true≢false (sym h))
  known (key.Resource name) h = absurd (true≢false (sym h))
  known (key.Occurrence c) h = absurd (true≢false (sym h))
  known (key.Dependency p s) h = absurd (true≢false (sym h))
  known (key.Need o name) h = absurd (true≢false (sym h))
  known (key.Quantity name) h = absurd (true≢false (sym h))
  known (key.Amount o name) h = absurd (true≢false (sym h))

  counted : (rows : List PlanRow) → count_by is_known (map key_of rows) ≡ count_by (is_known_operation P) rows
  counted [] = refl
  counted (r ∷ rows) =
      sum_by-cons (λ k. cond (is_known k) 1 0) (key_of r) (map key_of rows)
      ∙ ap (λ b. cond b 1 0 + count_by is_known (map key_of rows)) (sym (told_by_key r))
      ∙ ap (λ n. cond (is_known_operation P r) 1 0 + n) (counted rows)
      ∙ sym (sum_by-cons (λ k. cond (is_known_operation P k) 1 0) r rows)

  -- rows in order have no more of them than there are operations
  pub known_are_few : (rows : List PlanRow) → IsStrictlySortedBy row_cmp (map key_of rows) → count_by (is_known_operation P) rows ≤ length (entries P.operations)
  known_are_few rows ascend =
      let found = filter is_known (map key_of rows) in
      let all = map key.Operation (keys P.operations) in
      let few : length found ≤ length all = length-le_from_is_member (eq_by_cmp_equiv row_cmp_total) found all
      (IsDistinct-from_sorted row_cmp found (IsStrictlySortedBy-filter row_cmp is_known (map key_of rows) ascend))
      (λ k h. if_member row_cmp_total all k (known k (contains_from_filter is_known (map key_of rows) k (member_if row_cmp-IsAntisymmetric found k h)).1)) in
      let as_many : length all ≡ length (entries P.operations) = length_map key.Operation (keys P.operations) ∙ ap length (keys_of-entries operation_cmp P.operations) ∙ length_map (λ e. e.0) (entries P.operations) in
      omega (arith, few, as_many, length-filter is_known (map key_of rows), counted rows)

  -- and so many can be counted
  pub known_fit : IsSound P → (rows : List PlanRow) → IsStrictlySortedBy row_cmp (map key_of rows) → count_by (is_known_operation P) rows ≤ 18446744073709551615
  known_fit sound rows ascend =
      let most : MOST_OPERATIONS ≤ 18446744073709551615 = omega arith in
      omega (arith, known_are_few rows ascend, len-entries P.operations, sound.valid.limits.operations, most)
