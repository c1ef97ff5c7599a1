-- The table `resource` after each text.
use Rattle.std.proofs.Common.{◌≡◌, ℕ, List, [], ◌∷◌, inl, inr, refl, arith, Result, OnOk}
use Rattle.std.specs.List.Sorted.{IsPermutation}
use Rattle.sqlite.specs.Effect.{IsDatabase}
use Rattle.sqlite.specs.Order.{Row}
use Rattle.sqlite.specs.State.{State, ExecutesInside, Shown}
use Rattle.sqlite.specs.declared.error.Error.{Error}
use Rattle.sqlite.specs.declared.types.Value.TheVariants.{Text}
use Rattle.store_schema.specs.Rows.{IsEmpty}
use Rattle.store_schema.proofs.Stored.{cast_int, or_no}
use Rattle.store_schema.specs.Schema.{resource, schema_3, schema_4, desk_schema}
use Rattle.store_schema.specs.StoredPlans.{StoredResource, resource_row, with_resource, Turns}
use Rattle.store_schema.specs.declared.texts.TheConstants.{CREATE_RESOURCE, PUT_RESOURCE, READ_RESOURCE}
use Rattle.store_schema.proofs.Tables.{IsTable, table_made, row_put, all_read}
use Rattle.store_schema.proofs.ResourceTexts.{create_is, create_plain, put, read}

table : IsTable resource 1 5 3 resource_row (λ was. was.resources) (λ xs was. record was { resources = xs })
table = record {
  listed = refl;
  fits = record { low = refl; listed = inr (inr (inr (inl refl))); still = λ olds news. refl; met = λ new r. or_no _; index = (_, inr (inr (inl refl)), refl, refl, refl); blind = λ x y r v. refl };
  rows = record { cast = λ x i. Text x.name ∷ cast_int x.available i ∷ []; exact = λ x. (tt, tt); inserted = λ x. refl; found = λ x id more. refl; updated = λ x y id n. refl };
  filled = (refl, (refl, tt));
  wide = omega arith;
  held = λ db was holds. holds.resources;
  told = λ db was xs it. (refl, refl, refl, it, refl, refl, refl, refl, refl, refl, refl);
}

-- a row is put in
pub resource_put : (old new : State) (x : StoredResource) (r : Result ℕ Error) → ExecutesInside 0 PUT_RESOURCE.now (resource_row x) old new r → OnOk r (Turns (with_resource x) old.now new.now)
resource_put = row_put table put

-- the table is made
pub resource_made : (old new : State) (r : Result ℕ Error) → ExecutesInside 0 CREATE_RESOURCE.now [] old new r → OnOk r (IsEmpty schema_3 old.now → IsEmpty schema_4 new.now × IsDatabase new.now)
resource_made = table_made schema_3 CREATE_RESOURCE.now resource create_is create_plain refl

-- all rows are read, each once
pub resource_read : (old new : State) (rows : List Row) → IsDatabase old.now → old.now.schema ≡ desk_schema → Shown READ_RESOURCE.now [] old new rows → IsPermutation (old.now.trees 5) rows
resource_read = all_read table read
