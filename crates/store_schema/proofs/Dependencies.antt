-- The table `dependency` after each text.
use Rattle.std.proofs.Common.{ℤ, ◌≡◌, ℕ, List, [], ◌∷◌, inl, inr, refl, arith, Result, OnOk}
use Rattle.std.specs.List.Sorted.{IsPermutation}
use Rattle.sqlite.specs.Effect.{IsDatabase}
use Rattle.sqlite.specs.Order.{Row}
use Rattle.sqlite.specs.State.{State, ExecutesInside, Shown}
use Rattle.sqlite.specs.declared.error.Error.{Error}
use Rattle.sqlite.specs.declared.types.Value.TheVariants.{Text, Int}
use Rattle.store_schema.specs.Rows.{IsEmpty}
use Rattle.store_schema.specs.Stored.{with_value}
use Rattle.store_schema.specs.Stored.{without_key}
use Rattle.store_schema.proofs.Stored.{cast_int, or_no, value_passed, value_dropped}
use Rattle.store_schema.specs.Schema.{dependency, schema_6, schema_7, desk_schema}
use Rattle.store_schema.specs.StoredPlans.{StoredDependency, dependency_row, with_dependency, Turns, without_dependency}
use Rattle.store_schema.specs.declared.texts.TheConstants.{CREATE_DEPENDENCY, PUT_DEPENDENCY, READ_DEPENDENCY, DROP_DEPENDENCY}
use Rattle.store_schema.proofs.Tables.{IsTable, turned, table_made, all_read, turned}
use Rattle.store_schema.proofs.DependencyTexts.{create_is, create_plain, put, read, drop}

table : IsTable dependency 6 11 6 dependency_row (λ was. was.dependencies) (λ xs was. record was { dependencies = xs })
table = record {
  listed = refl;
  fits = record { low = refl; listed = inr (inr (inr (inr (inr (inr (inl refl)))))); still = λ olds news. refl; met = λ new r. or_no _; index = (_, inr (inr (inr (inr (inr (inl refl))))), refl, refl, refl); blind = λ x y r v. refl };
  rows = record { cast = λ x i. Text x.papp ∷ cast_int x.pia i ∷ cast_int x.pnum i ∷ Text x.sapp ∷ cast_int x.sia i ∷ cast_int x.snum i ∷ []; exact = λ x. (tt, (tt, (tt, (tt, (tt, (tt, tt)))))); inserted = λ x. refl; found = λ x id more. refl; updated = λ x y id n. refl };
  filled = (refl, (refl, (refl, (refl, (refl, (refl, tt))))));
  wide = omega arith;
  held = λ db was holds. holds.dependencies;
  told = λ db was xs it. (refl, refl, refl, refl, refl, refl, it, refl, refl, refl, refl);
}

-- a row is put in
pub dependency_put : (old new : State) (x : StoredDependency) (r : Result ℕ Error) → ExecutesInside 0 PUT_DEPENDENCY.now (dependency_row x) old new r → OnOk r (Turns (with_dependency x) old.now new.now)
dependency_put old new x r = turned table PUT_DEPENDENCY.now (dependency_row x) (with_value 6 dependency_row x) old new r
    (λ xs count. value_passed desk_schema dependency.name dependency.columns 6 11 6 table.fits table.listed dependency_row table.rows PUT_DEPENDENCY.now put.plain put.is (λ x y same. same) old new x xs count)

-- the table is made
pub dependency_made : (old new : State) (r : Result ℕ Error) → ExecutesInside 0 CREATE_DEPENDENCY.now [] old new r → OnOk r (IsEmpty schema_6 old.now → IsEmpty schema_7 new.now × IsDatabase new.now)
dependency_made = table_made schema_6 CREATE_DEPENDENCY.now dependency create_is create_plain refl

-- all rows are read, each once
pub dependency_read : (old new : State) (rows : List Row) → IsDatabase old.now → old.now.schema ≡ desk_schema → Shown READ_DEPENDENCY.now [] old new rows → IsPermutation (old.now.trees 11) rows
dependency_read = all_read table read

-- a row is taken out
pub dependency_dropped : (old new : State) (papp : List ℕ) (pia : ℤ) (pnum : ℤ) (sapp : List ℕ) (sia : ℤ) (snum : ℤ) (r : Result ℕ Error) → ExecutesInside 0 DROP_DEPENDENCY.now (Text papp ∷ Int pia ∷ Int pnum ∷ Text sapp ∷ Int sia ∷ Int snum ∷ []) old new r → OnOk r (Turns (without_dependency papp pia pnum sapp sia snum) old.now new.now)
dependency_dropped old new papp pia pnum sapp sia snum r =
    let k = Text papp ∷ Int pia ∷ Int pnum ∷ Text sapp ∷ Int sia ∷ Int snum ∷ [] in
    turned table DROP_DEPENDENCY.now k (without_key 6 dependency_row k) old new r
    (λ xs count. value_dropped desk_schema dependency.name dependency.columns 6 11 6 table.fits table.listed dependency_row table.rows DROP_DEPENDENCY.now drop.plain drop.is old new k xs count)
