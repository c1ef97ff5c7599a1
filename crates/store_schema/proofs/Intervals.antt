-- The table `interval` after each text.
use Rattle.std.proofs.Common.{◌≡◌, ℕ, ℤ, List, [], ◌∷◌, inl, inr, refl, arith, Result, OnOk}
use Rattle.std.specs.List.Sorted.{IsPermutation}
use Rattle.sqlite.specs.Effect.{IsDatabase}
use Rattle.sqlite.specs.Order.{Row}
use Rattle.sqlite.specs.State.{State, ExecutesInside, Shown}
use Rattle.sqlite.specs.declared.error.Error.{Error}
use Rattle.sqlite.specs.declared.types.Value.TheVariants.{Text, Int}
use Rattle.store_schema.specs.Rows.{IsEmpty}
use Rattle.store_schema.specs.Stored.{without_key}
use Rattle.store_schema.proofs.Stored.{cast_int, or_no, value_dropped}
use Rattle.store_schema.specs.Schema.{interval, schema_2, schema_3, desk_schema}
use Rattle.store_schema.specs.StoredPlans.{StoredInterval, interval_row, with_interval, without_interval, Turns}
use Rattle.store_schema.specs.declared.texts.TheConstants.{CREATE_INTERVAL, PUT_INTERVAL, READ_INTERVAL, DROP_INTERVAL}
use Rattle.store_schema.proofs.Tables.{IsTable, turned, table_made, row_put, all_read}
use Rattle.store_schema.proofs.IntervalTexts.{create_is, create_plain, put, drop, read}

table : IsTable interval 2 3 2 interval_row (λ was. was.intervals) (λ xs was. record was { intervals = xs })
table = record {
  listed = refl;
  fits = record { low = refl; listed = inr (inr (inl refl)); still = λ olds news. refl; met = λ new r. or_no _; index = (_, inr (inl refl), refl, refl, refl); blind = λ x y r v. refl };
  rows = record { cast = λ x i. Text x.ws ∷ cast_int x.start i ∷ cast_int x.stop i ∷ cast_int x.servers i ∷ cast_int x.r1 i ∷ cast_int x.r2 i ∷ []; exact = λ x. (tt, (tt, tt)); inserted = λ x. refl; found = λ x id more. refl; updated = λ x y id n. refl };
  filled = (refl, (refl, (refl, (refl, (refl, (refl, tt))))));
  wide = omega arith;
  held = λ db was holds. holds.intervals;
  told = λ db was xs it. (refl, refl, it, refl, refl, refl, refl, refl, refl, refl, refl);
}

-- a row is put in
pub interval_put : (old new : State) (x : StoredInterval) (r : Result ℕ Error) → ExecutesInside 0 PUT_INTERVAL.now (interval_row x) old new r → OnOk r (Turns (with_interval x) old.now new.now)
interval_put = row_put table put

-- a row is taken out
pub interval_dropped : (old new : State) (ws : List ℕ) (start : ℤ) (r : Result ℕ Error) → ExecutesInside 0 DROP_INTERVAL.now (Text ws ∷ Int start ∷ []) old new r → OnOk r (Turns (without_interval ws start) old.now new.now)
interval_dropped old new ws start r =
    let k = Text ws ∷ Int start ∷ [] in
    turned table DROP_INTERVAL.now k (without_key 2 interval_row k) old new r
    (λ xs count. value_dropped desk_schema interval.name interval.columns 2 3 2 table.fits table.listed interval_row table.rows DROP_INTERVAL.now drop.plain drop.is old new k xs count)

-- the table is made
pub interval_made : (old new : State) (r : Result ℕ Error) → ExecutesInside 0 CREATE_INTERVAL.now [] old new r → OnOk r (IsEmpty schema_2 old.now → IsEmpty schema_3 new.now × IsDatabase new.now)
interval_made = table_made schema_2 CREATE_INTERVAL.now interval create_is create_plain refl

-- all rows are read, each once
pub interval_read : (old new : State) (rows : List Row) → IsDatabase old.now → old.now.schema ≡ desk_schema → Shown READ_INTERVAL.now [] old new rows → IsPermutation (old.now.trees 3) rows
interval_read = all_read table read
