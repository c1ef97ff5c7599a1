-- What callers see of a desk, and what its store holds.
use Rattle.std.specs.Prelude.{◌≡◌, Bool, true, false, List, IsTrue, refl}
use Rattle.std.specs.Coded.{Coded, code_by, coded×, coded_bool}
use Rattle.sqlite.specs.Effect.{Database}
use Rattle.sqlite.specs.Held.{Held as Connected, held_code, state}
use Rattle.sqlite.specs.State.{State as StoreState, HasCleanDisk}
use Rattle.sqlite_trees.specs.Tree.{Trees}
use Rattle.sqlite_trees.specs.declared.store.Store.{Ghosts}
use Rattle.plan_basics.specs.declared.keys.OpKey.{OpKey}
use Rattle.plan_basics.specs.declared.Refusal.TheVariants as refusal
use Rattle.store_schema.specs.Receipts.{HoldReceipts}
use Rattle.store_schema.specs.WrittenTables.{HoldRows}
use Rattle.store_reads.specs.Versions.{IsRowBy}
use Rattle.plan_model.specs.Code.{plan_code}
use Rattle.plan_model.specs.Plan.{Plan}
use Rattle.plan_records.specs.Answer.{Answer, accepted, refused}
use Rattle.plan_records.specs.Run.{Call, CallStep, State, Usable, usable, to_be_reopened}
use Rattle.plan_records.specs.Schedules.{IsDeskState}
use Rattle.plan_records.specs.Step.{Receipts}
use Rattle.store_schema.specs.Schema.{desk_schema, first_schema}
use Rattle.store_schema.specs.StoredPlans.{Held, StoresIn}
use Rattle.store_schema.specs.declared.texts.Version.{Version}
use Rattle.store_schema.specs.declared.texts.Version.TheVariants.{First, Second}
use Rattle.tracker_receipts.specs.Codes.{receipts_code}

-- the plan, the receipts of trackers, whether requests are carried out, and the connection to the store
pub record DeskState (S : Type 0) : Type 0 where
  pub plan : Plan
  pub receipts : Receipts
  pub is_usable : Bool
  pub conn : Connected S

-- it is stored as these four
abbrev pub desk_code : {S : Type 0} → Coded S → Coded (DeskState S)
desk_code {S} store =
    code_by ((Plan × Receipts) × (Bool × Connected S)) (coded× (coded× plan_code receipts_code) (coded× coded_bool (held_code store)))
    (λ d. ((d.plan, d.receipts), (d.is_usable, d.conn)))
    (λ p. record { plan = p.0.0; receipts = p.0.1; is_usable = p.1.0; conn = p.1.1 })
    (λ _. refl)

-- its plan, and the receipts beside it
abbrev pub state_of : {S : Type 0} → DeskState S → State
state_of d = record { plan = d.plan; receipts = d.receipts }

-- whether the next request is carried out
abbrev pub usability : Bool → Usable
usability true = usable
usability false = to_be_reopened

-- the disk has returned what was written so far, and no fault has shut the store
abbrev pub IsClean : StoreState → Type 0
IsClean s = HasCleanDisk s × IsTrue s.is_open

-- the tables of this version are there, and hold the rows of this plan and of these receipts, and no others
pub record HoldsStateIn (version : Version) (s : State) (db : Database) : Type 0 where
  pub held : Held
  pub stores : StoresIn version db held
  pub rows : HoldRows (IsRowBy version s.plan) held
  pub receipts : HoldReceipts s.receipts held

-- so it is of the tables of a desk
abbrev pub HoldsState : State → Database → Type 0
HoldsState = HoldsStateIn Second

-- and of those of the first version
abbrev pub HoldsFirstState : State → Database → Type 0
HoldsFirstState = HoldsStateIn First

-- the tables hold the rows of no sound plan with well formed receipts beside it
abbrev pub HoldsNoStateIn : Version → Database → Type 0
HoldsNoStateIn version db = (s : State) → IsDeskState s → ¬ HoldsStateIn version s db

abbrev pub HoldsNoState : Database → Type 0
HoldsNoState = HoldsNoStateIn Second

-- the tables are those that a desk makes
-- (a desk that is made in a database with views has another schema, and of its tables nothing is promised)
abbrev pub HasTables : StoreState → Type 0
HasTables s = s.committed.schema ≡ desk_schema

-- they are those of the first version
abbrev pub HasFirstTables : StoreState → Type 0
HasFirstTables s = s.committed.schema ≡ first_schema

-- the plan is sound and the receipts are well formed, no transaction is open, and the tables of a clean store are those of both
pub record IsKept {S : Type 0} (g : Ghosts S) (d : DeskState S) : Type 0 where
  pub legal : IsDeskState (state_of d)
  pub idle : d.conn.in_transaction ≡ false
  pub tables : IsClean (state g d.conn) → HasTables (state g d.conn) → HoldsState (state_of d) (state g d.conn).committed

-- these are the trees of a database that holds the rows of this state in the tables of this version, and no others
abbrev pub TreesHoldIn : Version → State → Trees → Type 0
TreesHoldIn version s trees = (db : Database) × HoldsStateIn version s db × (trees ≡ db.trees)

abbrev pub TreesHold : State → Trees → Type 0
TreesHold = TreesHoldIn Second

-- these are the tables after some accepted step of this state by this call: the plan's and the receipts' together
abbrev pub IsStepCommitted : State → Call → Trees → Type 0
IsStepCommitted s c trees = (t : State) × (named : List OpKey) × CallStep s c (accepted named) t × TreesHold t trees

-- a call that was prepared is carried out: these keys are named, and the desk has that plan and those receipts; or memory lacked, or the store failed, and both are as they were, and after a fault of the store the desk carries out nothing
abbrev pub IsCarriedOut : {S : Type 0} → DeskState S → List OpKey → State → Answer → DeskState S → Type 0
IsCarriedOut old named t (accepted chosen) new = (chosen ≡ named) × (new.plan ≡ t.plan) × (new.receipts ≡ t.receipts) × (new.is_usable ≡ true)
IsCarriedOut old named t (refused refusal.Memory) new = (new.plan ≡ old.plan) × (new.receipts ≡ old.receipts) × (new.is_usable ≡ true)
IsCarriedOut old named t (refused refusal.Store) new = (new.plan ≡ old.plan) × (new.receipts ≡ old.receipts) × (new.is_usable ≡ false)
IsCarriedOut old named t (refused r) new = ⊥
