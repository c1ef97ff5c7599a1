-- The table `workstation` after each text.
use Rattle.std.proofs.Common.{◌≡◌, ℕ, List, [], ◌∷◌, inl, inr, refl, arith, Result, OnOk}
use Rattle.std.specs.List.Sorted.{IsPermutation}
use Rattle.sqlite.specs.Effect.{IsDatabase}
use Rattle.sqlite.specs.Order.{Row}
use Rattle.sqlite.specs.State.{State, ExecutesInside, Shown}
use Rattle.sqlite.specs.declared.error.Error.{Error}
use Rattle.sqlite.specs.declared.types.Value.TheVariants.{Text}
use Rattle.store_schema.specs.Rows.{IsEmpty}
use Rattle.store_schema.proofs.Stored.{or_no}
use Rattle.store_schema.specs.Schema.{workstation, schema_1, schema_2, desk_schema}
use Rattle.store_schema.specs.StoredPlans.{StoredWorkstation, workstation_row, with_workstation, Turns}
use Rattle.store_schema.specs.declared.texts.TheConstants.{CREATE_WORKSTATION, PUT_WORKSTATION, READ_WORKSTATION}
use Rattle.store_schema.proofs.Tables.{IsTable, table_made, row_put, all_read}
use Rattle.store_schema.proofs.WorkstationTexts.{create_is, create_plain, put, read}

table : IsTable workstation 1 1 1 workstation_row (λ was. was.workstations) (λ xs was. record was { workstations = xs })
table = record {
  listed = refl;
  fits = record { low = refl; listed = inr (inl refl); still = λ olds news. refl; met = λ new r. or_no _; index = (_, inl refl, refl, refl, refl); blind = λ x y r v. refl };
  rows = record { cast = λ x i. Text x.name ∷ Text x.attr ∷ []; exact = λ x. (tt, tt); inserted = λ x. refl; found = λ x id more. refl; updated = λ x y id n. refl };
  filled = (refl, (refl, tt));
  wide = omega arith;
  held = λ db was holds. holds.workstations;
  told = λ db was xs it. (refl, it, refl, refl, refl, refl, refl, refl, refl, refl, refl);
}

-- a row is put in
pub workstation_put : (old new : State) (x : StoredWorkstation) (r : Result ℕ Error) → ExecutesInside 0 PUT_WORKSTATION.now (workstation_row x) old new r → OnOk r (Turns (with_workstation x) old.now new.now)
workstation_put = row_put table put

-- the table is made
pub workstation_made : (old new : State) (r : Result ℕ Error) → ExecutesInside 0 CREATE_WORKSTATION.now [] old new r → OnOk r (IsEmpty schema_1 old.now → IsEmpty schema_2 new.now × IsDatabase new.now)
workstation_made = table_made schema_1 CREATE_WORKSTATION.now workstation create_is create_plain refl

-- all rows are read, each once
pub workstation_read : (old new : State) (rows : List Row) → IsDatabase old.now → old.now.schema ≡ desk_schema → Shown READ_WORKSTATION.now [] old new rows → IsPermutation (old.now.trees 1) rows
workstation_read = all_read table read
