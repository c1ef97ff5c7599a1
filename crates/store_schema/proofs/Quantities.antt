-- The table `quantity` after each text.
use Rattle.std.proofs.Common.{◌≡◌, ℕ, List, [], ◌∷◌, inl, inr, refl, arith, Result, OnOk}
use Rattle.std.specs.List.Sorted.{IsPermutation}
use Rattle.sqlite.specs.Effect.{IsDatabase}
use Rattle.sqlite.specs.Order.{Row}
use Rattle.sqlite.specs.State.{State, ExecutesInside, Shown}
use Rattle.sqlite.specs.declared.error.Error.{Error}
use Rattle.sqlite.specs.declared.types.Value.TheVariants.{Text}
use Rattle.store_schema.specs.Rows.{IsEmpty}
use Rattle.store_schema.proofs.Stored.{cast_int, or_no}
use Rattle.store_schema.specs.Schema.{quantity, first_schema, schema_10, desk_schema}
use Rattle.store_schema.specs.StoredPlans.{StoredQuantity, quantity_row, with_quantity, Turns}
use Rattle.store_schema.specs.declared.texts.TheConstants.{CREATE_QUANTITY, PUT_QUANTITY, READ_QUANTITY}
use Rattle.store_schema.proofs.Tables.{IsTable, table_made, row_put, all_read}
use Rattle.store_schema.proofs.QuantityTexts.{create_is, create_plain, put, read}

table : IsTable quantity 1 17 9 quantity_row (λ was. was.quantities) (λ xs was. record was { quantities = xs })
table = record {
  listed = refl;
  fits = record { low = refl; listed = inr (inr (inr (inr (inr (inr (inr (inr (inr (inl refl))))))))); still = λ olds news. refl; met = λ new r. or_no _; index = (_, inr (inr (inr (inr (inr (inr (inr (inr (inl refl)))))))), refl, refl, refl); blind = λ x y r v. refl };
  rows = record { cast = λ x i. Text x.resource ∷ cast_int x.quantity i ∷ []; exact = λ x. (tt, tt); inserted = λ x. refl; found = λ x id more. refl; updated = λ x y id n. refl };
  filled = (refl, (refl, tt));
  wide = omega arith;
  held = λ db was holds. holds.quantities;
  told = λ db was xs it. (refl, refl, refl, refl, refl, refl, refl, refl, refl, it, refl);
}

-- a row is put in
pub quantity_put : (old new : State) (x : StoredQuantity) (r : Result ℕ Error) → ExecutesInside 0 PUT_QUANTITY.now (quantity_row x) old new r → OnOk r (Turns (with_quantity x) old.now new.now)
quantity_put = row_put table put

-- the table is made
pub quantity_made : (old new : State) (r : Result ℕ Error) → ExecutesInside 0 CREATE_QUANTITY.now [] old new r → OnOk r (IsEmpty first_schema old.now → IsEmpty schema_10 new.now × IsDatabase new.now)
quantity_made = table_made first_schema CREATE_QUANTITY.now quantity create_is create_plain refl

-- all rows are read, each once
pub quantity_read : (old new : State) (rows : List Row) → IsDatabase old.now → old.now.schema ≡ desk_schema → Shown READ_QUANTITY.now [] old new rows → IsPermutation (old.now.trees 17) rows
quantity_read = all_read table read
