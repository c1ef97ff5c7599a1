-- Rows of one special resource are the same where it is available in both or in neither.
use Rattle.std.proofs.Common.{◌≡◌, ◌↔◌, sym, ap, ◌∙◌, ℕ, IsTrue, List, map, get_or, slice_get, Some, option_map}
use Rattle.std.proofs.Math.Bool.{beq}
use Rattle.std.proofs.lemmas.Option.{get_or_from_slice_get, same_Some, slice_get-map}
use Rattle.std.specs.Cmp.{booleans_Decides}
use Rattle.std.specs.Map.{keys_of}
use Rattle.plan_basics.specs.Keys.{Name}
use Rattle.plan_model.specs.declared.Stock.{Stock}
use Rattle.plan_records.specs.declared.PlanRow.TheVariants as row
use Rattle.plan_rows.specs.Rows.{resource_row}
use Rattle.row_differences.proofs.Picked.{made_from}
use Rattle.row_differences.specs.Differences.{HaveOneKey}

row_at : (xs : List (Name × Stock)) (i : ℕ) (z : Name × Stock) → slice_get xs i ≡ Some z → slice_get (map resource_row xs) i ≡ Some (resource_row z)
row_at xs i z at = slice_get-map resource_row xs i ∙ ap (option_map resource_row) at

one_availability : (z w : Name × Stock) → resource_row z ≡ resource_row w → z.1.available ≡ w.1.available
one_availability z w e = cc

pub availability_told : (before after : List (Name × Stock)) (i j : ℕ) → HaveOneKey (keys_of before) (keys_of after) i j → (x y : Name × Stock)
    → IsTrue (beq (get_or before i x).1.available (get_or after j y).1.available) ↔ (slice_get (map resource_row before) i ≡ slice_get (map resource_row after) j)
availability_told before after i j one x y = (
  λ yes.
      let name = was.2 ∙ sym here.2 in
      let available = sym (ap (λ (z : Name × Stock). z.1.available) old) ∙ (booleans_Decides (get_or before i x).1.available (get_or after j y).1.available).0 yes ∙ ap (λ (z : Name × Stock). z.1.available) new in
      row_at before i was.0 was.1 ∙ (λ t. Some (row.Resource (name t) (available t))) ∙ sym (row_at after j here.0 here.1),
  λ same.
      let rows = same_Some (resource_row was.0) (resource_row here.0) (sym (row_at before i was.0 was.1) ∙ same ∙ row_at after j here.0 here.1) in
      (booleans_Decides (get_or before i x).1.available (get_or after j y).1.available).1
      (ap (λ (z : Name × Stock). z.1.available) old ∙ one_availability was.0 here.0 rows ∙ sym (ap (λ (z : Name × Stock). z.1.available) new)),
)
  where
    was : (z : Name × Stock) × (slice_get before i ≡ Some z) × (z.0 ≡ one.0)
    was = made_from (λ (z : Name × Stock). z.0) before i one.0 one.1

    here : (z : Name × Stock) × (slice_get after j ≡ Some z) × (z.0 ≡ one.0)
    here = made_from (λ (z : Name × Stock). z.0) after j one.0 one.2

    old : get_or before i x ≡ was.0
    old = get_or_from_slice_get before i was.0 x was.1

    new : get_or after j y ≡ here.0
    new = get_or_from_slice_get after j here.0 y here.1
