-- The table `amount` after each text.
use Rattle.std.proofs.Common.{ℤ, ◌≡◌, ℕ, List, [], ◌∷◌, inl, inr, refl, arith, Result, OnOk}
use Rattle.std.specs.List.Sorted.{IsPermutation}
use Rattle.sqlite.specs.Effect.{IsDatabase}
use Rattle.sqlite.specs.Order.{Row}
use Rattle.sqlite.specs.State.{State, ExecutesInside, Shown}
use Rattle.sqlite.specs.declared.error.Error.{Error}
use Rattle.sqlite.specs.declared.types.Value.TheVariants.{Int, Text}
use Rattle.store_schema.specs.Rows.{IsEmpty}
use Rattle.store_schema.specs.Stored.{without_key}
use Rattle.store_schema.proofs.Stored.{cast_int, or_no, value_dropped}
use Rattle.store_schema.specs.Schema.{amount, schema_10, desk_schema}
use Rattle.store_schema.specs.StoredPlans.{StoredAmount, amount_row, with_amount, Turns, without_amount}
use Rattle.store_schema.specs.declared.texts.TheConstants.{CREATE_AMOUNT, PUT_AMOUNT, READ_AMOUNT, DROP_AMOUNT}
use Rattle.store_schema.proofs.Tables.{IsTable, table_made, row_put, all_read, turned}
use Rattle.store_schema.proofs.AmountTexts.{create_is, create_plain, put, read, drop}

table : IsTable amount 4 19 10 amount_row (λ was. was.amounts) (λ xs was. record was { amounts = xs })
table = record {
  listed = refl;
  fits = record { low = refl; listed = inr (inr (inr (inr (inr (inr (inr (inr (inr (inr (inl refl)))))))))); still = λ olds news. refl; met = λ new r. or_no _; index = (_, inr (inr (inr (inr (inr (inr (inr (inr (inr (inl refl))))))))), refl, refl, refl); blind = λ x y r v. refl };
  rows = record { cast = λ x i. Text x.app ∷ cast_int x.ia i ∷ cast_int x.num i ∷ Text x.resource ∷ cast_int x.amount i ∷ []; exact = λ x. (tt, (tt, (tt, (tt, tt)))); inserted = λ x. refl; found = λ x id more. refl; updated = λ x y id n. refl };
  filled = (refl, (refl, (refl, (refl, (refl, tt)))));
  wide = omega arith;
  held = λ db was holds. holds.amounts;
  told = λ db was xs it. (refl, refl, refl, refl, refl, refl, refl, refl, refl, refl, it);
}

-- a row is put in
pub amount_put : (old new : State) (x : StoredAmount) (r : Result ℕ Error) → ExecutesInside 0 PUT_AMOUNT.now (amount_row x) old new r → OnOk r (Turns (with_amount x) old.now new.now)
amount_put = row_put table put

-- the table is made
pub amount_made : (old new : State) (r : Result ℕ Error) → ExecutesInside 0 CREATE_AMOUNT.now [] old new r → OnOk r (IsEmpty schema_10 old.now → IsEmpty desk_schema new.now × IsDatabase new.now)
amount_made = table_made schema_10 CREATE_AMOUNT.now amount create_is create_plain refl

-- all rows are read, each once
pub amount_read : (old new : State) (rows : List Row) → IsDatabase old.now → old.now.schema ≡ desk_schema → Shown READ_AMOUNT.now [] old new rows → IsPermutation (old.now.trees 19) rows
amount_read = all_read table read

-- a row is taken out
pub amount_dropped : (old new : State) (app : List ℕ) (ia : ℤ) (num : ℤ) (resource : List ℕ) (r : Result ℕ Error) → ExecutesInside 0 DROP_AMOUNT.now (Text app ∷ Int ia ∷ Int num ∷ Text resource ∷ []) old new r → OnOk r (Turns (without_amount app ia num resource) old.now new.now)
amount_dropped old new app ia num resource r =
    let k = Text app ∷ Int ia ∷ Int num ∷ Text resource ∷ [] in
    turned table DROP_AMOUNT.now k (without_key 4 amount_row k) old new r
    (λ xs count. value_dropped desk_schema amount.name amount.columns 4 19 10 table.fits table.listed amount_row table.rows DROP_AMOUNT.now drop.plain drop.is old new k xs count)
