-- The desk of a database, and what it answers to the load of a text's plan.
use Rattle.std.specs.Prelude.{◌≡◌, ◌⊎◌, ℤ, false, [], Option, IsTrue, is_some}
use Rattle.std.specs.List.{list_any}
use Rattle.sqlite.specs.Schema.{Schema}
use Rattle.sqlite.specs.State.{State as StoreState, HasCleanDisk}
use Rattle.plan_basics.specs.declared.Refusal.TheVariants as refusal
use Rattle.store_schema.specs.Tables.{no_schema}
use Rattle.plan_records.specs.plan_model.specs.Contents.{Contents}
use Rattle.plan_records.specs.Answer.{Answer, accepted, refused}
use Rattle.plan_records.specs.Run.{CallStep, State, empty_state, plain}
use Rattle.command_desks.specs.Loaded.{load_request}
use Rattle.store_schema.specs.Schema.{first_schema, desk_schema, schema_of}
use Rattle.store_schema.specs.declared.texts.Version.{Version}
use Rattle.command_desks.specs.desk_tables.specs.Desk.{HoldsNoStateIn, HoldsState, HoldsStateIn}
use Rattle.command_desks.specs.desk_tables.specs.Faults.{IsOpeningRefusal}
use Rattle.command_desks.specs.desk_tables.specs.Shut.{IsOpenAfter}

-- there is no table: none that SQL reaches, and none that is kept as it is
abbrev pub HasNoTable : Schema → Type 0
HasNoTable schema = (schema.tables ≡ []) × (list_any (λ view. is_some view.foreign) schema.views ≡ false)

-- the database has this schema, and did so at its last commit
abbrev pub HasSchema : StoreState → Schema → Type 0
HasSchema s schema = (s.now.schema ≡ schema) × (s.committed.schema ≡ schema)

-- the plan and the receipts at the desk of a database: neither is there where the database had no table; where it had a desk's tables, of either version, they held their rows
pub record IsStateAt (old new : StoreState) (s : State) : Type 0 where
  pub made : HasNoTable old.now.schema → s ≡ empty_state
  pub opened : HasCleanDisk new → (version : Version) → HasSchema old (schema_of version) → HoldsStateIn version s old.committed

-- what `Damaged` tells of a database: it has tables, and where they are those of a desk, they hold no state of one
abbrev pub IsDamaged : StoreState → Type 0
IsDamaged s = ¬ HasSchema s no_schema × ((version : Version) → HasSchema s (schema_of version) → HoldsNoStateIn version s.committed)

-- a desk may be made in the database, or opened
abbrev pub IsForDesk : StoreState → Type 0
IsForDesk s = HasSchema s no_schema ⊎ ((version : Version) × HasSchema s (schema_of version))

-- the load of a draft at a minute is answered as at the plan of the database's desk, and where it is accepted the store is open and the tables hold the plan after it; or the tables are no plan's, which is told of such tables alone, memory lacks, or the store failed. What is refused leaves a desk's tables as they were, where the store is open, as it is after any refusal but `Memory` and `Store`; those of the first version, or those of the second in their place that hold the same
abbrev pub IsAnswerToLoad : StoreState → StoreState → ℤ → Option Contents → Answer → Type 0
IsAnswerToLoad old new at draft (accepted named) =
    (before : State) × (after : State) × IsStateAt old new before × CallStep before (plain (load_request at draft)) (accepted named) after
    × (HasCleanDisk new → IsForDesk old → IsTrue new.is_open × HoldsState after new.committed)
IsAnswerToLoad old new at draft (refused r) =
    ((IsOpeningRefusal r × (r ≡ refusal.Damaged → HasCleanDisk new → IsTrue new.is_open × IsDamaged old)) ⊎ ((before : State) × IsStateAt old new before × CallStep before (plain (load_request at draft)) (refused r) before))
    × (HasCleanDisk new → IsOpenAfter (refused r) new → HasSchema old desk_schema → new.committed ≡ old.committed)
    × (HasCleanDisk new → IsOpenAfter (refused r) new → HasSchema old first_schema → (new.committed ≡ old.committed) ⊎ ((before : State) × IsStateAt old new before × HoldsState before new.committed))
