-- A database in which the tables were made holds nothing.
use Rattle.std.proofs.Common.{◌≡◌, List, [], sym, subst}
use Rattle.sqlite.specs.Effect.{Database, IsDatabase}
use Rattle.sqlite.specs.Order.{Row}
use Rattle.store_schema.specs.Rows.{IsEmpty}
use Rattle.store_schema.specs.Stored.{Holds, HoldsByRowid}
use Rattle.store_schema.specs.Schema.{desk_schema}
use Rattle.store_schema.specs.StoredPlans.{Stores, none_held, meta_row, workstation_row, interval_row, resource_row, occurrence_row, operation_row, dependency_row, need_row, receipt_row, quantity_row, amount_row}

pub none : {X : Type 0} (row : X → Row) (rows : List Row) → rows ≡ [] → Holds row rows []
none row rows empty = subst (λ rows. Holds row rows []) (sym empty) (record { numbered = (tt, tt); sound = λ r there. absurd there; complete = λ x there. absurd there })

pub stores_none : (db : Database) → IsEmpty desk_schema db → IsDatabase db → Stores db none_held
stores_none db h sound = record {
  sound = sound;
  schema_is = h.schema_is;
  metas = subst (λ rows. HoldsByRowid meta_row rows []) (sym h.empty.0) (record { numbered = (tt, tt); sound = λ r there. absurd there; complete = λ x there. absurd there });
  workstations = none workstation_row (db.trees 1) h.empty.1.0;
  intervals = none interval_row (db.trees 3) h.empty.1.1.0;
  resources = none resource_row (db.trees 5) h.empty.1.1.1.0;
  occurrences = none occurrence_row (db.trees 7) h.empty.1.1.1.1.0;
  operations = none operation_row (db.trees 9) h.empty.1.1.1.1.1.0;
  dependencies = none dependency_row (db.trees 11) h.empty.1.1.1.1.1.1.0;
  needs = none need_row (db.trees 13) h.empty.1.1.1.1.1.1.1.0;
  receipts = none receipt_row (db.trees 15) h.empty.1.1.1.1.1.1.1.1.0;
  quantities = none quantity_row (db.trees 17) h.empty.1.1.1.1.1.1.1.1.1.0;
  amounts = none amount_row (db.trees 19) h.empty.1.1.1.1.1.1.1.1.1.1.0;
}
