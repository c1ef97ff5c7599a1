-- What a stop leaves of the tables.
use Rattle.std.specs.Prelude.{◌≡◌, ◌⊎◌, ℕ, Option, Result, Ok, Err, IsTrue}
use Rattle.sqlite.specs.Held.{Held as Connected}
use Rattle.sqlite.specs.State.{State as StoreState, HasCleanDisk}
use Rattle.sqlite_trees.specs.Tree.{Trees}
use Rattle.plan_basics.specs.declared.Refusal.{Refusal}
use Rattle.plan_records.specs.Run.{Call, State, Usable, empty_state}
use Rattle.plan_records.specs.Schedules.{Event, Leaves, LeavesVersion}
use Rattle.store_schema.specs.declared.texts.Version.{Version}
use Rattle.store_schema.specs.declared.texts.Version.TheVariants.{First, Second}
use Rattle.desk_tables.specs.Desk.{DeskState, HasTables, IsStepCommitted, TreesHold, TreesHoldIn}

-- where the disk has returned what was written so far, a stop now leaves trees of which this is so; a stop at an earlier moment of a call is one now, over a store whose disk refuses all calls from that moment on, as a clause holds over every store
abbrev pub StopsLeave : StoreState → (Trees → Type 0) → Type 0
StopsLeave new IsSo = HasCleanDisk new → (trees : Trees) → new.may_leave trees → IsSo trees

-- the number by which the tables of a version name it
abbrev pub number_of : Version → ℕ
number_of First = 1
number_of Second = 2

-- the trees hold a state that this event leaves, of a desk and of tables that stood so
abbrev pub AreLeftBy : State → Option Usable → Event → Trees → Type 0
AreLeftBy s d event trees = (t : State) × (e : Option Usable) × Leaves s d event t e × TreesHold t trees

-- the same of tables of either version, which the event leaves in one
abbrev pub AreLeftIn : Version → State → Option Usable → Event → Trees → Type 0
AreLeftIn version s d event trees =
    (t : State) × (e : Option Usable) × (left : Version) × Leaves s d event t e × LeavesVersion s (number_of version) event (number_of left) × TreesHoldIn left t trees

-- what a stop in the making of the tables leaves: what there was, or the tables of a desk at which nothing is loaded and no receipt is kept
abbrev pub AreLeftByMaking : Trees → Trees → Type 0
AreLeftByMaking was trees = (trees ≡ was) ⊎ TreesHold empty_state trees

-- what a call may commit: the tables after an accepted step by it, where the store was open and the tables are a desk's
abbrev pub MayCommitStep : StoreState → State → Call → Trees → Type 0
MayCommitStep old s c trees = IsTrue old.is_open → HasTables old → IsStepCommitted s c trees

-- the connection afterwards: that of the desk, or that which is given back beside the refusal
abbrev pub connection_after : {S : Type 0} → Result (DeskState S) (Refusal × Connected S) → Connected S
connection_after (Ok desk) = desk.conn
connection_after (Err (refusal, conn)) = conn
