-- What a desk finds that is opened over what a stop left.
use Rattle.std.specs.Prelude.{[], ◌∷◌, Option, None, Some, ⊤}
use Rattle.sqlite.specs.State.{State as StoreState}
use Rattle.plan_records.specs.Run.{State, Usable, usable}
use Rattle.plan_records.specs.Schedules.{Event, Schedule, found, nothing, opening, stop, stopped}
use Rattle.store_schema.specs.declared.texts.Version.{Version}
use Rattle.desk_tables.specs.Desk.{HasTables, HoldsState}
use Rattle.desk_tables.specs.Stops.{number_of}

-- after the event there is no desk: a call was stopped, or it was between calls, or in an opening
abbrev pub LeavesNoDesk : Event → Type 0
LeavesNoDesk (stopped c None) = ⊤
LeavesNoDesk stop = ⊤
LeavesNoDesk (opening nothing) = ⊤
LeavesNoDesk _ = ⊥

-- of tables of this version that held s, and of the desk that there was, the event and then an opening that found x are a schedule; and the tables are a desk's, and hold x
pub record IsFoundAfter (version : Version) (s : State) (d : Option Usable) (event : Event) (x : State) (now : StoreState) : Type 0 where
  pub schedule : Schedule (record { version = number_of version; stored = s; desk = d }) (event ∷ opening (found x) ∷ []) (record { version = 2; stored = x; desk = Some usable })
  pub has_tables : HasTables now
  pub holds : HoldsState x now.committed
