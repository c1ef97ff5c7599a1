-- What a text on one table leaves of all eleven.
use Rattle.std.proofs.Common.{◌≡◌, ◌≢◌, ◌==◌, ℕ, Bool, true, false, List, refl, sym, subst₂}
use Rattle.std.proofs.lemmas.Bool.{eqb-false}
use Rattle.sqlite.specs.Effect.{Database}
use Rattle.sqlite.specs.Order.{Row}
use Rattle.store_schema.specs.Rows.{Leaves}
use Rattle.store_schema.specs.Stored.{Holds, HoldsByRowid}
use Rattle.store_schema.specs.Schema.{desk_schema}
use Rattle.store_schema.specs.StoredPlans.{Held, Stores, meta_row, workstation_row, interval_row, resource_row, occurrence_row, operation_row, dependency_row, need_row, receipt_row, quantity_row, amount_row}

-- values of the table that was written stand in it as told, and those of another are as they were
abbrev pub IsTold : {X : Type 0} → Bool → (List Row → List X → Type 0) → List Row → List X → List X → Type 0
IsTold true stand rows was is = stand rows is
IsTold false stand rows was is = is ≡ was

-- so it is of each table, after a text on the one in this tree
abbrev pub AreTold : ℕ → Database → Held → Held → Type 0
AreTold tree after was is =
    IsTold (0 == tree) (HoldsByRowid meta_row) (after.trees 0) was.metas is.metas
    × IsTold (1 == tree) (Holds workstation_row) (after.trees 1) was.workstations is.workstations
    × IsTold (3 == tree) (Holds interval_row) (after.trees 3) was.intervals is.intervals
    × IsTold (5 == tree) (Holds resource_row) (after.trees 5) was.resources is.resources
    × IsTold (7 == tree) (Holds occurrence_row) (after.trees 7) was.occurrences is.occurrences
    × IsTold (9 == tree) (Holds operation_row) (after.trees 9) was.operations is.operations
    × IsTold (11 == tree) (Holds dependency_row) (after.trees 11) was.dependencies is.dependencies
    × IsTold (13 == tree) (Holds need_row) (after.trees 13) was.needs is.needs
    × IsTold (15 == tree) (Holds receipt_row) (after.trees 15) was.receipts is.receipts
    × IsTold (17 == tree) (Holds quantity_row) (after.trees 17) was.quantities is.quantities
    × IsTold (19 == tree) (Holds amount_row) (after.trees 19) was.amounts is.amounts

pub stored : (tree : ℕ) (before after : Database) (was is : Held) → Leaves desk_schema tree before after → Stores before was → AreTold tree after was is → Stores after is
stored tree before after was is left h told =
    let stay = left.others in
    record {
      sound = left.sound;
      schema_is = left.schema_is;
      metas = stand 0 (HoldsByRowid meta_row) stay.0 h.metas told.0;
      workstations = stand 1 (Holds workstation_row) stay.1.0 h.workstations told.1;
      intervals = stand 3 (Holds interval_row) stay.1.1.0 h.intervals told.2;
      resources = stand 5 (Holds resource_row) stay.1.1.1.0 h.resources told.3;
      occurrences = stand 7 (Holds occurrence_row) stay.1.1.1.1.0 h.occurrences told.4;
      operations = stand 9 (Holds operation_row) stay.1.1.1.1.1.0 h.operations told.5;
      dependencies = stand 11 (Holds dependency_row) stay.1.1.1.1.1.1.0 h.dependencies told.6;
      needs = stand 13 (Holds need_row) stay.1.1.1.1.1.1.1.0 h.needs told.7;
      receipts = stand 15 (Holds receipt_row) stay.1.1.1.1.1.1.1.1.0 h.receipts told.8;
      quantities = stand 17 (Holds quantity_row) stay.1.1.1.1.1.1.1.1.1.0 h.quantities told.9;
      amounts = stand 19 (Holds amount_row) stay.1.1.1.1.1.1.1.1.1.1.0 h.amounts told.10;
    }
  where
    by : {X : Type 0} (b : Bool) (P : List Row → List X → Type 0) (old new : List Row) (xs ys : List X) → (b ≡ false → new ≡ old) → P old xs → IsTold b P new xs ys → P new ys
    by true P old new xs ys stays at own = own
    by false P old new xs ys stays at same = subst₂ P (sym (stays refl)) (sym same) at

    stand : {X : Type 0} (t : ℕ) (P : List Row → List X → Type 0) {xs ys : List X} → (t ≢ tree → after.trees t ≡ before.trees t) → P (before.trees t) xs → IsTold (t == tree) P (after.trees t) xs ys → P (after.trees t) ys
    stand t P {xs} {ys} stays at it = by (t == tree) P (before.trees t) (after.trees t) xs ys (λ apart. stays (eqb-false t tree apart)) at it
