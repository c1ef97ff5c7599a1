-- The table `occurrence` after each text.
use Rattle.std.proofs.Common.{ℤ, ◌≡◌, ℕ, List, [], ◌∷◌, inl, inr, refl, arith, Result, OnOk}
use Rattle.std.specs.List.Sorted.{IsPermutation}
use Rattle.sqlite.specs.Effect.{IsDatabase}
use Rattle.sqlite.specs.Order.{Row}
use Rattle.sqlite.specs.State.{State, ExecutesInside, Shown}
use Rattle.sqlite.specs.declared.error.Error.{Error}
use Rattle.sqlite.specs.declared.types.Value.TheVariants.{Text, Int}
use Rattle.store_schema.specs.Rows.{IsEmpty}
use Rattle.store_schema.specs.Stored.{without_key}
use Rattle.store_schema.proofs.Stored.{cast_int, or_no, value_dropped}
use Rattle.store_schema.specs.Schema.{occurrence, schema_4, schema_5, desk_schema}
use Rattle.store_schema.specs.StoredPlans.{StoredOccurrence, occurrence_row, with_occurrence, Turns, without_occurrence}
use Rattle.store_schema.specs.declared.texts.TheConstants.{CREATE_OCCURRENCE, PUT_OCCURRENCE, READ_OCCURRENCE, DROP_OCCURRENCE}
use Rattle.store_schema.proofs.Tables.{IsTable, table_made, row_put, all_read, turned}
use Rattle.store_schema.proofs.OccurrenceTexts.{create_is, create_plain, put, read, drop}

table : IsTable occurrence 2 7 4 occurrence_row (λ was. was.occurrences) (λ xs was. record was { occurrences = xs })
table = record {
  listed = refl;
  fits = record { low = refl; listed = inr (inr (inr (inr (inl refl)))); still = λ olds news. refl; met = λ new r. or_no _; index = (_, inr (inr (inr (inl refl))), refl, refl, refl); blind = λ x y r v. refl };
  rows = record { cast = λ x i. Text x.app ∷ cast_int x.ia i ∷ cast_int x.priority i ∷ cast_int x.deadline i ∷ Text x.status ∷ []; exact = λ x. (tt, (tt, tt)); inserted = λ x. refl; found = λ x id more. refl; updated = λ x y id n. refl };
  filled = (refl, (refl, (refl, (refl, (refl, tt)))));
  wide = omega arith;
  held = λ db was holds. holds.occurrences;
  told = λ db was xs it. (refl, refl, refl, refl, it, refl, refl, refl, refl, refl, refl);
}

-- a row is put in
pub occurrence_put : (old new : State) (x : StoredOccurrence) (r : Result ℕ Error) → ExecutesInside 0 PUT_OCCURRENCE.now (occurrence_row x) old new r → OnOk r (Turns (with_occurrence x) old.now new.now)
occurrence_put = row_put table put

-- the table is made
pub occurrence_made : (old new : State) (r : Result ℕ Error) → ExecutesInside 0 CREATE_OCCURRENCE.now [] old new r → OnOk r (IsEmpty schema_4 old.now → IsEmpty schema_5 new.now × IsDatabase new.now)
occurrence_made = table_made schema_4 CREATE_OCCURRENCE.now occurrence create_is create_plain refl

-- all rows are read, each once
pub occurrence_read : (old new : State) (rows : List Row) → IsDatabase old.now → old.now.schema ≡ desk_schema → Shown READ_OCCURRENCE.now [] old new rows → IsPermutation (old.now.trees 7) rows
occurrence_read = all_read table read

-- a row is taken out
pub occurrence_dropped : (old new : State) (app : List ℕ) (ia : ℤ) (r : Result ℕ Error) → ExecutesInside 0 DROP_OCCURRENCE.now (Text app ∷ Int ia ∷ []) old new r → OnOk r (Turns (without_occurrence app ia) old.now new.now)
occurrence_dropped old new app ia r =
    let k = Text app ∷ Int ia ∷ [] in
    turned table DROP_OCCURRENCE.now k (without_key 2 occurrence_row k) old new r
    (λ xs count. value_dropped desk_schema occurrence.name occurrence.columns 2 7 4 table.fits table.listed occurrence_row table.rows DROP_OCCURRENCE.now drop.plain drop.is old new k xs count)
