-- What is at an index among rows under their keys.
use Rattle.std.proofs.Common.{◌≡◌, ◌≢◌, ◌↔◌, inl, inr, refl, sym, ap, ◌∙◌, ℕ, Bool, true, false, not, true≢false, List, slice_get, Some, option_map}
use Rattle.std.specs.Prelude.{IsTrue}
use Rattle.std.proofs.lemmas.Bool.{cases_Bool}
use Rattle.std.proofs.lemmas.Option.{same_Some, slice_get-map}
use Rattle.plan_records.proofs.RowEquality.{equal_rows}
use Rattle.plan_records.specs.contracts.PlanRowPartialEq.TheImpl as equality
use Rattle.plan_records.specs.declared.PlanRow.{PlanRow}
use Rattle.plan_rows.specs.Rows.{rows_of}

-- a row stands where it stands under its key
pub keyed_row : {K : Type 0} (keyed : List (K × PlanRow)) (i : ℕ) (k : K) (r : PlanRow) → slice_get keyed i ≡ Some (k, r) → slice_get (rows_of keyed) i ≡ Some r
keyed_row {K} keyed i k r at = slice_get-map (λ (x : K × PlanRow). x.1) keyed i ∙ ap (option_map (λ (x : K × PlanRow). x.1)) at

-- rows are compared to tell whether two tables have the same at two indices
pub rows_alike : (olds news : List PlanRow) (i j : ℕ) (a b : PlanRow) (told : Bool) → slice_get olds i ≡ Some a → slice_get news j ≡ Some b → told ≡ equality.ghosts.eq a b
    → IsTrue told ↔ (slice_get olds i ≡ slice_get news j)
rows_alike olds news i j a b told old new is = (
  λ t. old ∙ (ap Some ((equal_rows a b).0 (sym is ∙ t)) ∙ sym new),
  λ e. is ∙ (equal_rows a b).1 (same_Some a b (sym old ∙ (e ∙ new))),
)

-- or to tell whether the rows at one index differ
pub rows_differ : (olds news : List PlanRow) (i : ℕ) (a b : PlanRow) (told : Bool) → slice_get olds i ≡ Some a → slice_get news i ≡ Some b → told ≡ not (equality.ghosts.eq a b)
    → (told ≡ true → slice_get olds i ≢ slice_get news i) × (told ≡ false → slice_get olds i ≡ slice_get news i)
rows_differ olds news i a b told old new is = (
  λ t e. true≢false (sym t ∙ (is ∙ ap not (alike.1 e))),
  λ f. elim (cases_Bool (equality.ghosts.eq a b)) [ inl same ↦ alike.0 same | inr other ↦ absurd (true≢false (sym (ap not other) ∙ (sym is ∙ f))) ],
)
  where
    alike : IsTrue (equality.ghosts.eq a b) ↔ (slice_get olds i ≡ slice_get news i)
    alike = rows_alike olds news i i a b (equality.ghosts.eq a b) old new refl
