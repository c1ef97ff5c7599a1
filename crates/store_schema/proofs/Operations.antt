-- The table `operation` after each text.
use Rattle.std.proofs.Common.{ℤ, ◌≡◌, ℕ, List, [], ◌∷◌, inl, inr, refl, arith, Result, OnOk}
use Rattle.std.specs.List.Sorted.{IsPermutation}
use Rattle.sqlite.specs.Effect.{IsDatabase}
use Rattle.sqlite.specs.Order.{Row}
use Rattle.sqlite.specs.State.{State, ExecutesInside, Shown}
use Rattle.sqlite.specs.declared.error.Error.{Error}
use Rattle.sqlite.specs.declared.types.Value.TheVariants.{Text, Int}
use Rattle.store_schema.specs.Rows.{IsEmpty}
use Rattle.store_schema.specs.Stored.{without_key}
use Rattle.store_schema.proofs.Stored.{cast_int, or_no, value_dropped}
use Rattle.store_schema.specs.Schema.{operation, schema_5, schema_6, desk_schema}
use Rattle.store_schema.specs.StoredPlans.{StoredOperation, operation_row, with_operation, Turns, without_operation}
use Rattle.store_schema.specs.declared.texts.TheConstants.{CREATE_OPERATION, PUT_OPERATION, READ_OPERATION, DROP_OPERATION}
use Rattle.store_schema.proofs.Tables.{IsTable, table_made, row_put, all_read, turned}
use Rattle.store_schema.proofs.OperationTexts.{create_is, create_plain, put, read, drop}

table : IsTable operation 3 9 5 operation_row (λ was. was.operations) (λ xs was. record was { operations = xs })
table = record {
  listed = refl;
  fits = record { low = refl; listed = inr (inr (inr (inr (inr (inl refl))))); still = λ olds news. refl; met = λ new r. or_no _; index = (_, inr (inr (inr (inr (inl refl)))), refl, refl, refl); blind = λ x y r v. refl };
  rows = record { cast = λ x i. Text x.app ∷ cast_int x.ia i ∷ cast_int x.num i ∷ Text x.ws ∷ cast_int x.duration i ∷ cast_int x.r1 i ∷ cast_int x.r2 i ∷ cast_int x.not_before i ∷ cast_int x.deadline i ∷ Text x.mark ∷ Text x.code ∷ cast_int x.held i ∷ cast_int x.nop i ∷ Text x.status ∷ cast_int x.latest i ∷ cast_int x.waiting i ∷ []; exact = λ x. (tt, (tt, (tt, tt))); inserted = λ x. refl; found = λ x id more. refl; updated = λ x y id n. refl };
  filled = (refl, (refl, (refl, (refl, (refl, (refl, (refl, (refl, (refl, (refl, (refl, (refl, (refl, (refl, (refl, (refl, tt))))))))))))))));
  wide = omega arith;
  held = λ db was holds. holds.operations;
  told = λ db was xs it. (refl, refl, refl, refl, refl, it, refl, refl, refl, refl, refl);
}

-- a row is put in
pub operation_put : (old new : State) (x : StoredOperation) (r : Result ℕ Error) → ExecutesInside 0 PUT_OPERATION.now (operation_row x) old new r → OnOk r (Turns (with_operation x) old.now new.now)
operation_put = row_put table put

-- the table is made
pub operation_made : (old new : State) (r : Result ℕ Error) → ExecutesInside 0 CREATE_OPERATION.now [] old new r → OnOk r (IsEmpty schema_5 old.now → IsEmpty schema_6 new.now × IsDatabase new.now)
operation_made = table_made schema_5 CREATE_OPERATION.now operation create_is create_plain refl

-- all rows are read, each once
pub operation_read : (old new : State) (rows : List Row) → IsDatabase old.now → old.now.schema ≡ desk_schema → Shown READ_OPERATION.now [] old new rows → IsPermutation (old.now.trees 9) rows
operation_read = all_read table read

-- a row is taken out
pub operation_dropped : (old new : State) (app : List ℕ) (ia : ℤ) (num : ℤ) (r : Result ℕ Error) → ExecutesInside 0 DROP_OPERATION.now (Text app ∷ Int ia ∷ Int num ∷ []) old new r → OnOk r (Turns (without_operation app ia num) old.now new.now)
operation_dropped old new app ia num r =
    let k = Text app ∷ Int ia ∷ Int num ∷ [] in
    turned table DROP_OPERATION.now k (without_key 3 operation_row k) old new r
    (λ xs count. value_dropped desk_schema operation.name operation.columns 3 9 5 table.fits table.listed operation_row table.rows DROP_OPERATION.now drop.plain drop.is old new k xs count)
