-- What the tables of the first version hold, and what they hold with the row that names the second.
use Rattle.std.proofs.Common.{inl, inr, refl, sym, subst}
use Rattle.tracker_receipts.specs.plan_model.specs.Plan.{Plan}
use Rattle.tracker_receipts.specs.plan_records.specs.Rows.{IsFirstRow, IsRow}
use Rattle.tracker_receipts.specs.plan_records.specs.declared.PlanRow.{PlanRow}
use Rattle.tracker_receipts.specs.plan_records.specs.declared.PlanRow.TheVariants as row
use Rattle.store_schema.specs.StoredPlans.{Held}
use Rattle.store_schema.specs.WrittenTables.{HoldRows, with_row}
use Rattle.store_schema.proofs.RowPut.{WithRow, row_put, rows_alike}

module _ (P : Plan) where
  -- the one row that both versions don't share
  abbrev Version : PlanRow
  Version = row.Meta 2 P.loaded P.clock

  to_second : (r : PlanRow) → WithRow Version (IsFirstRow P) r → IsRow P r
  to_second r (inl own) = subst (IsRow P) (sym own) (refl, refl, refl)
  to_second (row.Meta version loaded clock) (inr other) = absurd (other.1 refl)
  to_second r (inr other) = other.0

  from_second : (r : PlanRow) → IsRow P r → WithRow Version (IsFirstRow P) r
  from_second (row.Meta version loaded clock) is = inl (λ i. row.Meta (is.0 i) (is.1 i) (is.2 i))
  from_second r is = inr (is, λ same. cc)

  pub upgraded : (held : Held) → HoldRows (IsFirstRow P) held → HoldRows (IsRow P) (with_row Version held)
  upgraded held h = rows_alike (λ r. (to_second r, from_second r)) (row_put (IsFirstRow P) Version held h)
