-- What changes in one table, and in all tables up to it.
use Rattle.std.proofs.Common.{◌≡◌, ◌⊎◌, ◌↔◌, inl, inr, sym, subst, ap, ◌∙◌, arith, ℕ, ◌+◌, ◌<◌, List, ◌++◌, map, length, slice_get, Some, option_map}
use Rattle.std.specs.Cmp.{nat_cmp_is}
use Rattle.std.specs.FinMap.{IsAntisymmetric}
use Rattle.std.specs.List.Sorted.{IsStrictlySortedBy}
use Rattle.std.specs.Ordering.{ordering_then}
use Rattle.std.specs.declared.cmp.Ordering.{Ordering}
use Rattle.std.specs.declared.cmp.Ordering.TheVariants.{Less}
use Rattle.std.proofs.lemmas.Bool.{cases_lt}
use Rattle.std.proofs.lemmas.Cmp.{tied_itself}
use Rattle.std.proofs.lemmas.Option.{slice_get-map}
use Rattle.plan_records.specs.plan_drafts.specs.declared.RowKey.{RowKey}
use Rattle.plan_records.specs.plan_drafts.specs.RowKeys.{row_cmp_total}
use Rattle.plan_model.specs.Plan.{Plan}
use Rattle.plan_records.specs.Rows.{key_cmp, key_of, row_cmp, table_of}
use Rattle.plan_records.specs.declared.Changes.{Changes}
use Rattle.plan_records.specs.declared.PlanRow.{PlanRow}
use Rattle.plan_rows.specs.Tables.{AreChangesBelow, AreRowsOf, IsRowBelow, IsRowOf}
use Rattle.row_differences.proofs.Joined.{described, joined}
use Rattle.row_differences.proofs.Merging.{key_within}
use Rattle.row_differences.proofs.RowsChanged.{row_changes}
use Rattle.row_differences.specs.Changes.{AreAt, AreRowChanges}
use Rattle.row_differences.specs.Differences.{AreDifferences, HaveOneKey}

module _ (n : ℕ) (P Q : Plan) where
  earlier : (r s : PlanRow) → IsRowBelow n P r ⊎ IsRowBelow n Q r → IsRowOf n P s ⊎ IsRowOf n Q s → row_cmp (key_of r) (key_of s) ≡ Less
  earlier r s below of = ap (λ t. ordering_then t (key_cmp (key_of r) (key_of s))) (sym (nat_cmp_is (table_of (key_of r)) (table_of (key_of s)) Less (let a = lt below in let b = is of in omega (arith, a, b))))
    where
      lt : IsRowBelow n P r ⊎ IsRowBelow n Q r → table_of (key_of r) < n
      lt (inl h) = h.1
      lt (inr h) = h.1

      is : IsRowOf n P s ⊎ IsRowOf n Q s → table_of (key_of s) ≡ n
      is (inl h) = h.1
      is (inr h) = h.1

  either : (R : Plan) (r : PlanRow) → (IsRowBelow n R r ⊎ IsRowOf n R r) ↔ IsRowBelow (n + 1) R r
  either R r = (
    elim [ inl h ↦ (h.0, let lt = h.1 in omega (arith, lt)) | inr h ↦ (h.0, let is = h.1 in omega (arith, is)) ],
    λ h. elim (cases_lt (table_of (key_of r)) n) [ inl lt ↦ inl (h.0, lt) | inr not ↦ inr (h.0, let lt = h.1 in omega (arith, not, lt)) ],
  )

  -- what changes in the tables so far and in the next one
  pub one_more_table : (old new : Changes) (more : List PlanRow) (away : List RowKey) → new.rows.items ≡ old.rows.items ++ more → new.gone.items ≡ old.gone.items ++ away → AreChangesBelow n P Q old → AreRowChanges row_cmp key_of (IsRowOf n P) (IsRowOf n Q) more away → AreChangesBelow (n + 1) P Q new
  one_more_table old new more away rows gone so_far here =
      let both = described (IsRowBelow (n + 1) P) (IsRowBelow (n + 1) Q) (either P) (either Q) (old.rows.items ++ more) (old.gone.items ++ away)
      (joined row_cmp_total key_of (IsRowBelow n P) (IsRowBelow n Q) (IsRowOf n P) (IsRowOf n Q) earlier old.rows.items more old.gone.items away so_far here) in
      subst (λ rs. AreRowChanges row_cmp key_of (IsRowBelow (n + 1) P) (IsRowBelow (n + 1) Q) rs new.gone.items) (sym rows) (subst (AreRowChanges row_cmp key_of (IsRowBelow (n + 1) P) (IsRowBelow (n + 1) Q) (old.rows.items ++ more)) (sym gone) both)

-- from the indices of what differs in a table to what changes in it
module _ {K : Type 0} (S : K → K → Ordering) (name : K → RowKey) (in_order : (a b : K) → row_cmp (name a) (name b) ≡ S a b) (exact : IsAntisymmetric S) where
  one_name : (a b : K) → name a ≡ name b → a ≡ b
  one_name a b same = exact a b (sym (in_order a b) ∙ (ap (row_cmp (name a)) (sym same) ∙ tied_itself row_cmp_total (name a)))

  pub table_changes : (before after : List K) → IsStrictlySortedBy S before → IsStrictlySortedBy S after → (olds news : List PlanRow) (IsAlike : ℕ → ℕ → Type 0)
      → ((i j : ℕ) → HaveOneKey before after i j → IsAlike i j ↔ (slice_get olds i ≡ slice_get news j)) → (n : ℕ) (P Q : Plan) → AreRowsOf name n P before olds → AreRowsOf name n Q after news
      → (changed gone : List ℕ) (rows : List PlanRow) (keys : List RowKey) → AreDifferences before after IsAlike changed gone → AreAt news changed rows → AreAt (map name before) gone keys → AreRowChanges row_cmp key_of (IsRowOf n P) (IsRowOf n Q) rows keys
  table_changes before after up_before up_after olds news IsAlike alike n P Q was is changed gone rows keys d at_changed at_gone =
      row_changes S row_cmp key_of name in_order one_name before after up_before up_after olds news was.keyed is.keyed (IsRowOf n P) (IsRowOf n Q) was.all is.all IsAlike alike changed gone rows keys d at_changed at_gone

-- the name of the key at an index
pub name_at : {K : Type 0} (name : K → RowKey) (keys : List K) (i : ℕ) (named : RowKey) → i < length keys → ((k : K) → slice_get keys i ≡ Some k → named ≡ name k) → slice_get (map name keys) i ≡ Some named
name_at name keys i named within is = let k = key_within keys i within in slice_get-map name keys i ∙ (ap (option_map name) k.1 ∙ ap Some (sym (is k.0 k.1)))
