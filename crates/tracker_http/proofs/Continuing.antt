-- What a call at the desk leaves, where no more is told than that it goes on.
use Rattle.std.proofs.Common.{inl, inr, IsTrue}
use Rattle.std.specs.Prelude.{⊤}
use Rattle.sqlite.specs.Held.{state}
use Rattle.sqlite.specs.State.{State as StoreState, HasCleanDisk, Survives}
use Rattle.sqlite.specs.Store.{Ghosts}
use Rattle.sqlite.specs.Tree.{Trees}
use Rattle.plan_records.specs.Answer.{Answer}
use Rattle.desk_tables.specs.Desk.{DeskState, HasTables, HoldsState, IsClean, state_of}
use Rattle.desk_tables.specs.Shut.{IsOpenAfter}
use Rattle.tracker_http.specs.Continuing.{Continues}

-- a crash may leave what it will
any_crash : (old new : StoreState) (P : Trees → Type 0) → Survives old new P → Survives old new (λ _. ⊤)
any_crash old new P survives = record {
  clean = survives.clean;
  shield = survives.shield;
  counts = survives.counts;
  limit = survives.limit;
  closes = survives.closes;
  crash = λ clean trees may. elim (survives.crash clean trees may) [ inl was ↦ inl was | inr made ↦ inr tt ];
}

-- by what a call promises the desk goes on: tables that held the state before hold the state after it
pub called : {S : Type 0} (g : Ghosts S) (d e : DeskState S) (x : Answer) → (IsClean (state g e.conn) → IsClean (state g d.conn))
    → (HasCleanDisk (state g e.conn) → IsTrue (state g d.conn).is_open → IsOpenAfter x (state g e.conn) → HasTables (state g d.conn) → HoldsState (state_of e) (state g e.conn).committed)
    → (P : Trees → Type 0) → Survives (state g d.conn) (state g e.conn) P → Continues g d e
called g d e x before tables P survives = record {
  tables = λ held clean. tables clean.0 (before clean).1 (λ _. clean.1) held.stores.schema_is;
  clean = before;
  survives = any_crash (state g d.conn) (state g e.conn) P survives;
}
