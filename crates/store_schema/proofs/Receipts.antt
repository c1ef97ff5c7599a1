-- The table `receipt` after each text.
use Rattle.std.proofs.Common.{◌≡◌, ℕ, List, [], ◌∷◌, inl, inr, refl, arith, Result, OnOk}
use Rattle.std.specs.List.Sorted.{IsPermutation}
use Rattle.sqlite.specs.Effect.{IsDatabase}
use Rattle.sqlite.specs.Order.{Row}
use Rattle.sqlite.specs.State.{State, ExecutesInside, Shown}
use Rattle.sqlite.specs.declared.error.Error.{Error}
use Rattle.sqlite.specs.declared.types.Value.TheVariants.{Blob, Text}
use Rattle.store_schema.specs.Rows.{IsEmpty}
use Rattle.store_schema.proofs.Stored.{cast_int, or_no}
use Rattle.store_schema.specs.Schema.{receipt, schema_8, first_schema, desk_schema}
use Rattle.store_schema.specs.StoredPlans.{StoredReceipt, receipt_row, with_receipt, Turns}
use Rattle.store_schema.specs.declared.texts.TheConstants.{CREATE_RECEIPT, PUT_RECEIPT, READ_RECEIPT}
use Rattle.store_schema.proofs.Tables.{IsTable, table_made, row_put, all_read}
use Rattle.store_schema.proofs.ReceiptTexts.{create_is, create_plain, put, read}

table : IsTable receipt 1 15 8 receipt_row (λ was. was.receipts) (λ xs was. record was { receipts = xs })
table = record {
  listed = refl;
  fits = record { low = refl; listed = inr (inr (inr (inr (inr (inr (inr (inr (inl refl)))))))); still = λ olds news. refl; met = λ new r. or_no _; index = (_, inr (inr (inr (inr (inr (inr (inr (inl refl))))))), refl, refl, refl); blind = λ x y r v. refl };
  rows = record { cast = λ x i. Text x.tracker ∷ cast_int x.number i ∷ Blob x.request ∷ Text x.reply ∷ []; exact = λ x. (tt, tt); inserted = λ x. refl; found = λ x id more. refl; updated = λ x y id n. refl };
  filled = (refl, (refl, (refl, (refl, tt))));
  wide = omega arith;
  held = λ db was holds. holds.receipts;
  told = λ db was xs it. (refl, refl, refl, refl, refl, refl, refl, refl, it, refl, refl);
}

-- a row is put in
pub receipt_put : (old new : State) (x : StoredReceipt) (r : Result ℕ Error) → ExecutesInside 0 PUT_RECEIPT.now (receipt_row x) old new r → OnOk r (Turns (with_receipt x) old.now new.now)
receipt_put = row_put table put

-- the table is made
pub receipt_made : (old new : State) (r : Result ℕ Error) → ExecutesInside 0 CREATE_RECEIPT.now [] old new r → OnOk r (IsEmpty schema_8 old.now → IsEmpty first_schema new.now × IsDatabase new.now)
receipt_made = table_made schema_8 CREATE_RECEIPT.now receipt create_is create_plain refl

-- all rows are read, each once
pub receipt_read : (old new : State) (rows : List Row) → IsDatabase old.now → old.now.schema ≡ desk_schema → Shown READ_RECEIPT.now [] old new rows → IsPermutation (old.now.trees 15) rows
receipt_read = all_read table read
