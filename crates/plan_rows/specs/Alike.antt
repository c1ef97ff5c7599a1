-- Rows of one key are the same where their values are equal.
use Rattle.std.specs.Prelude.{◌≡◌, ◌↔◌, ◌==◌, ℕ, Bool, List, [], map, slice_get, Some, Decides, option_map}
use Rattle.std.proofs.Common.{sym, ap, ◌∙◌}
use Rattle.std.proofs.lemmas.Option.{same_Some, slice_get-map}
use Rattle.std.proofs.lemmas.Bool.Decides.{Decides-eqb}
use Rattle.std.specs.FinMap.{IsAntisymmetric, nat_cmp-IsAntisymmetric}
use Rattle.std.specs.Map.{keys_of}
use Rattle.std.specs.Ordering.{nat_cmp, ordering_then}
use Rattle.std.specs.declared.cmp.Ordering.{Ordering}
use Rattle.plan_basics.proofs.PairOrders.{by_two-IsAntisymmetric}
use Rattle.plan_basics.specs.Intervals.{OpenInterval}
use Rattle.plan_basics.specs.Keys.{Name, name_cmp, name_cmp-IsAntisymmetric, operation_cmp-IsAntisymmetric}
use Rattle.plan_basics.specs.contracts.moments.IntervalPartialEq.TheImpl as intervals
use Rattle.plan_model.specs.Contents.{pair_cmp}
use Rattle.plan_records.proofs.RowEquality.{equal_rows}
use Rattle.plan_records.specs.declared.PlanRow.{PlanRow}
use Rattle.plan_records.specs.declared.PlanRow.TheVariants as row
use Rattle.plan_rows.specs.Rows.{interval_row, quantity_row}
use Rattle.row_differences.proofs.Picked.{made_from}
use Rattle.row_differences.specs.Differences.{HaveOneKey}
use Rattle.row_differences.specs.Rows.{HaveEqualValues}

-- only equal pairs tie
pub pair_exact : IsAntisymmetric pair_cmp
pair_exact = by_two-IsAntisymmetric operation_cmp-IsAntisymmetric operation_cmp-IsAntisymmetric

module _ {K X : Type 0} (eq : X → X → Bool) (row_of : K × X → PlanRow) (told : (x y : X) → Decides (eq x y) (x ≡ y)) (one_value : (z w : K × X) → row_of z ≡ row_of w → z.1 ≡ w.1) where
  row_at : (xs : List (K × X)) (i : ℕ) (z : K × X) → slice_get xs i ≡ Some z → slice_get (map row_of xs) i ≡ Some (row_of z)
  row_at xs i z e = slice_get-map row_of xs i ∙ ap (option_map row_of) e

  key_is : (xs : List (K × X)) (i : ℕ) (k : K) (z : K × X) → slice_get (keys_of xs) i ≡ Some k → slice_get xs i ≡ Some z → z.0 ≡ k
  key_is xs i k z e f = same_Some z.0 k (sym (slice_get-map (λ (x : K × X). x.0) xs i ∙ ap (option_map (λ (x : K × X). x.0)) f) ∙ e)

  pub valued_alike : (before after : List (K × X)) (i j : ℕ) → HaveOneKey (keys_of before) (keys_of after) i j → HaveEqualValues eq before after i j ↔ (slice_get (map row_of before) i ≡ slice_get (map row_of after) j)
  valued_alike before after i j one = (
    λ h.
        let key = key_is before i one.0 h.0 one.1 h.2 ∙ sym (key_is after j one.0 h.1 one.2 h.3) in
        let value = (told h.0.1 h.1.1).0 h.4 in
        row_at before i h.0 h.2 ∙ (λ t. Some (row_of (key t, value t))) ∙ sym (row_at after j h.1 h.3),
    λ h.
        let z = made_from (λ (x : K × X). x.0) before i one.0 one.1 in
        let w = made_from (λ (x : K × X). x.0) after j one.0 one.2 in
        (z.0, w.0, z.1, w.1, (told z.0.1 w.0.1).1 (one_value z.0 w.0 (same_Some (row_of z.0) (row_of w.0) (sym (row_at before i z.0 z.1) ∙ h ∙ row_at after j w.0 w.1)))),
  )

one_quantity : (z w : Name × ℕ) → quantity_row z ≡ quantity_row w → z.1 ≡ w.1
one_quantity z w e = cc

pub quantity_alike : (before after : List (Name × ℕ)) (i j : ℕ) → HaveOneKey (keys_of before) (keys_of after) i j → HaveEqualValues ◌==◌ before after i j ↔ (slice_get (map quantity_row before) i ≡ slice_get (map quantity_row after) j)
quantity_alike = valued_alike ◌==◌ quantity_row Decides-eqb one_quantity

-- intervals stand by their workstations' names, and then by their first minutes
abbrev pub interval_key_cmp : Name × ℕ → Name × ℕ → Ordering
interval_key_cmp x y = ordering_then (name_cmp x.0 y.0) (nat_cmp x.1 y.1)

-- only equal keys of intervals tie
pub interval_key_exact : IsAntisymmetric interval_key_cmp
interval_key_exact = by_two-IsAntisymmetric name_cmp-IsAntisymmetric nat_cmp-IsAntisymmetric

-- intervals are compared as rows of one workstation are
equal_intervals : (a b : OpenInterval) → Decides (intervals.ghosts.eq a b) (a ≡ b)
equal_intervals a b = let h = equal_rows (row.Interval [] a) (row.Interval [] b) in (λ e. one (h.0 e), λ e. h.1 (ap (row.Interval []) e))
  where
    one : row.Interval [] a ≡ row.Interval [] b → a ≡ b
    one e = cc

one_interval : (z w : (Name × ℕ) × OpenInterval) → interval_row z ≡ interval_row w → z.1 ≡ w.1
one_interval z w e = cc

pub interval_alike : (before after : List ((Name × ℕ) × OpenInterval)) (i j : ℕ) → HaveOneKey (keys_of before) (keys_of after) i j → HaveEqualValues intervals.ghosts.eq before after i j ↔ (slice_get (map interval_row before) i ≡ slice_get (map interval_row after) j)
interval_alike = valued_alike intervals.ghosts.eq interval_row equal_intervals one_interval
