-- What exchanges leave of a desk's tables and of its store, whatever was asked.
use Rattle.std.specs.Prelude.{Result, IfOk, ⊤}
use Rattle.sqlite.specs.Held.{state}
use Rattle.sqlite.specs.State.{Survives}
use Rattle.sqlite.specs.Store.{Ghosts}
use Rattle.tracker_http.specs.declared.told.Told.{Told}
use Rattle.desk_tables.specs.Desk.{DeskState, HoldsState, IsClean, state_of}
use Rattle.tracker_http.specs.Exchange.{StaysOpen}

-- the desk goes on from one to the other: where the tables held what the desk held, and the store is clean afterwards, they hold what it holds then
pub record Continues {S : Type 0} (g : Ghosts S) (d e : DeskState S) : Type 0 where
  pub tables : HoldsState (state_of d) (state g d.conn).committed → IsClean (state g e.conn) → HoldsState (state_of e) (state g e.conn).committed
  pub clean : IsClean (state g e.conn) → IsClean (state g d.conn)
  pub survives : Survives (state g d.conn) (state g e.conn) (λ _. ⊤)

-- it goes on so, and where something is told its store stays open
pub record ContinuesTelling {S F : Type 0} (g : Ghosts S) (told : Result Told F) (d e : DeskState S) : Type 0 where
  pub continues : Continues g d e
  pub stays_open : IfOk told (StaysOpen (state g d.conn) (state g e.conn))
