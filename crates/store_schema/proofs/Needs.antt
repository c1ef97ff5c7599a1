-- The table `need` after each text.
use Rattle.std.proofs.Common.{ℤ, ◌≡◌, ℕ, List, [], ◌∷◌, inl, inr, refl, arith, Result, OnOk}
use Rattle.std.specs.List.Sorted.{IsPermutation}
use Rattle.sqlite.specs.Effect.{IsDatabase}
use Rattle.sqlite.specs.Order.{Row}
use Rattle.sqlite.specs.State.{State, ExecutesInside, Shown}
use Rattle.sqlite.specs.declared.error.Error.{Error}
use Rattle.sqlite.specs.declared.types.Value.TheVariants.{Text, Int}
use Rattle.store_schema.specs.Rows.{IsEmpty}
use Rattle.store_schema.specs.Stored.{without_key}
use Rattle.store_schema.proofs.Stored.{cast_int, or_no, value_dropped}
use Rattle.store_schema.specs.Schema.{need, schema_7, schema_8, desk_schema}
use Rattle.store_schema.specs.StoredPlans.{StoredNeed, need_row, with_need, Turns, without_need}
use Rattle.store_schema.specs.declared.texts.TheConstants.{CREATE_NEED, PUT_NEED, READ_NEED, DROP_NEED}
use Rattle.store_schema.proofs.Tables.{IsTable, table_made, row_put, all_read, turned}
use Rattle.store_schema.proofs.NeedTexts.{create_is, create_plain, put, read, drop}

table : IsTable need 4 13 7 need_row (λ was. was.needs) (λ xs was. record was { needs = xs })
table = record {
  listed = refl;
  fits = record { low = refl; listed = inr (inr (inr (inr (inr (inr (inr (inl refl))))))); still = λ olds news. refl; met = λ new r. or_no _; index = (_, inr (inr (inr (inr (inr (inr (inl refl)))))), refl, refl, refl); blind = λ x y r v. refl };
  rows = record { cast = λ x i. Text x.app ∷ cast_int x.ia i ∷ cast_int x.num i ∷ Text x.resource ∷ Text x.mode ∷ Text x.keep ∷ []; exact = λ x. (tt, (tt, (tt, (tt, tt)))); inserted = λ x. refl; found = λ x id more. refl; updated = λ x y id n. refl };
  filled = (refl, (refl, (refl, (refl, (refl, (refl, tt))))));
  wide = omega arith;
  held = λ db was holds. holds.needs;
  told = λ db was xs it. (refl, refl, refl, refl, refl, refl, refl, it, refl, refl, refl);
}

-- a row is put in
pub need_put : (old new : State) (x : StoredNeed) (r : Result ℕ Error) → ExecutesInside 0 PUT_NEED.now (need_row x) old new r → OnOk r (Turns (with_need x) old.now new.now)
need_put = row_put table put

-- the table is made
pub need_made : (old new : State) (r : Result ℕ Error) → ExecutesInside 0 CREATE_NEED.now [] old new r → OnOk r (IsEmpty schema_7 old.now → IsEmpty schema_8 new.now × IsDatabase new.now)
need_made = table_made schema_7 CREATE_NEED.now need create_is create_plain refl

-- all rows are read, each once
pub need_read : (old new : State) (rows : List Row) → IsDatabase old.now → old.now.schema ≡ desk_schema → Shown READ_NEED.now [] old new rows → IsPermutation (old.now.trees 13) rows
need_read = all_read table read

-- a row is taken out
pub need_dropped : (old new : State) (app : List ℕ) (ia : ℤ) (num : ℤ) (resource : List ℕ) (r : Result ℕ Error) → ExecutesInside 0 DROP_NEED.now (Text app ∷ Int ia ∷ Int num ∷ Text resource ∷ []) old new r → OnOk r (Turns (without_need app ia num resource) old.now new.now)
need_dropped old new app ia num resource r =
    let k = Text app ∷ Int ia ∷ Int num ∷ Text resource ∷ [] in
    turned table DROP_NEED.now k (without_key 4 need_row k) old new r
    (λ xs count. value_dropped desk_schema need.name need.columns 4 13 7 table.fits table.listed need_row table.rows DROP_NEED.now drop.plain drop.is old new k xs count)
