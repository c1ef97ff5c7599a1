-- What a call makes of a database, within a transaction.
use Rattle.std.specs.Prelude.{◌≡◌, ◌⊎◌, ℕ, List, false, OnOk, IsTrue, Ok, Err, Result}
use Rattle.sqlite.specs.Effect.{Database, IsDatabase}
use Rattle.sqlite.specs.Order.{Row}
use Rattle.sqlite.specs.State.{State, ExecutesInside, HasCleanDisk, KeepsCommit, Survives}
use Rattle.sqlite.specs.Tree.{Trees}
use Rattle.sqlite.specs.Schema.{Schema}
use Rattle.sqlite.specs.declared.error.Error.{Error}
use Rattle.store_schema.specs.Rows.{IsEmpty}
use Rattle.store_schema.specs.Tables.{no_schema}
use Rattle.store_schema.specs.plan_records.specs.declared.PlanRow.TheVariants as row
use Rattle.store_schema.specs.Schema.{desk_schema}
use Rattle.store_schema.specs.StoredPlans.{Held, Stores, Turns, none_held}
use Rattle.store_schema.specs.WrittenTables.{with_row}

-- a text is run with these values within a transaction, or refused; how many rows it changed isn't said
abbrev pub IsRun : List ℕ → Row → State → State → Result (Unit {0}) Error → Type 0
IsRun sql values old new (Ok _) = (count : ℕ) × ExecutesInside 0 sql values old new (Ok count)
IsRun sql values old new (Err e) = ExecutesInside 0 sql values old new (Err e)

-- a call within a transaction: what it makes is seen inside, nothing is committed, and no crash finds it
-- (one record for all calls, so that they join by the same lemmas)
pub record RunsWithin (Makes : Database → Database → Type 0) (old new : State) (r : Result (Unit {0}) Error) : Type 0 where
  pub made : HasCleanDisk new → IsTrue old.in_transaction → OnOk r (Makes old.now new.now)
  pub inside : HasCleanDisk new → IsTrue old.in_transaction → OnOk r (IsTrue new.in_transaction × (new.committed ≡ old.committed))
  pub kept : HasCleanDisk new → IsTrue old.in_transaction → KeepsCommit old new
  pub survives : Survives old new (λ _. ⊥)

-- at Ok: the connection was open and is, what is made of what was committed is committed, and it is shown
abbrev pub IsCommitted : (Database → Database → Type 0) → State → State → Type 0
IsCommitted Makes old new = IsTrue old.is_open × IsTrue new.is_open × (new.now ≡ new.committed) × Makes old.committed new.committed

-- at Err: the connection was open, and all is as it was last committed
abbrev pub IsUndone : State → State → Type 0
IsUndone old new = IsTrue old.is_open × (new.now ≡ old.committed) × (new.committed ≡ old.committed)

-- what a crash leaves is what the call makes of what was committed, if the connection was open
abbrev pub LeavesMade : (Database → Database → Type 0) → State → Trees → Type 0
LeavesMade Makes old trees = (db : Database) × (IsTrue old.is_open → Makes old.committed db) × (trees ≡ db.trees)

-- a database of the one schema without rows becomes such a one of the other, which is sound if anything was done; and one that comes to have the other schema had the one
pub record Grows (from to : Schema) (before after : Database) : Type 0 where
  pub empty : IsEmpty from before → IsEmpty to after
  pub sound : IsDatabase after ⊎ (after ≡ before)
  pub back : after.schema ≡ to → before.schema ≡ from

-- whatever values the tables of the one database hold, those of the other hold what the change makes of them; and both have the same tables
pub record Rewrites (change : Held → Held) (before after : Database) : Type 0 where
  pub turns : Turns change before after
  pub schema_stays : after.schema ≡ before.schema

-- what the tables hold before a plan is loaded: that none is, and a clock at the first minute
abbrev pub first_held : Held
first_held = with_row (row.Meta 2 false 0) none_held

-- a database without tables becomes one with all tables, before a plan is loaded, and one that comes to have these tables and no others had none
pub record Begins (before after : Database) : Type 0 where
  pub stores : IsEmpty no_schema before → Stores after first_held
  pub back : after.schema ≡ desk_schema → before.schema ≡ no_schema
