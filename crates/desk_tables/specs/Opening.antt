-- The plan and the receipts whose rows these are.
use Rattle.std.specs.Prelude.{List, IsTrue}
use Rattle.sqlite.specs.State.{State as StoreState}
use Rattle.sqlite_trees.specs.Tree.{Trees}
use Rattle.plan_records.specs.Rows.{AreRows}
use Rattle.plan_records.specs.Run.{State}
use Rattle.plan_records.specs.Schedules.{IsDeskState}
use Rattle.plan_records.specs.declared.PlanRow.{PlanRow}
use Rattle.plan_writes.specs.Upgrading.{Upgrades}
use Rattle.plan_writes.specs.Within.{IsCommitted}
use Rattle.desk_tables.specs.Desk.{HasFirstTables, HoldsFirstState, TreesHold}
use Rattle.tracker_receipts.specs.Stored.{AreRowsOf, Columns}

-- a sound plan with well formed receipts, and these are all rows of both, each once
pub record IsStateOf (rows : List PlanRow) (receipts : List Columns) (s : State) : Type 0 where
  pub legal : IsDeskState s
  pub are_rows : AreRows s.plan rows
  pub are_receipts : AreRowsOf s.receipts receipts

-- no sound plan with well formed receipts has these rows
abbrev pub AreOfNoState : List PlanRow → List Columns → Type 0
AreOfNoState rows receipts = (s : State) → ¬ IsStateOf rows receipts s

-- the tables of the first version held this state, and they were made those of the second in one transaction
pub record IsOpenedFirst (s : State) (old new : StoreState) : Type 0 where
  pub held : HoldsFirstState s old.committed
  pub committed : IsCommitted (Upgrades s.plan.loaded s.plan.clock) old new

-- what an opening may commit: tables of the second version in place of those of the first, where the store was open and these held a sound plan with well formed receipts
abbrev pub MayBringUp : StoreState → Trees → Type 0
MayBringUp old trees = (s : State) × IsDeskState s × (IsTrue old.is_open → HasFirstTables old → HoldsFirstState s old.committed × TreesHold s trees)
