use Rattle.std.proofs.Common.{◌≡◌, ◌≤◌, false, take, length, map, vec_len, IsTrue}
use Rattle.std.specs.Prelude.{⊤}
use Rattle.std.specs.List.{list_any}
use Rattle.std.specs.Vec.{vec_capacity}
use Rattle.sqlite.specs.Held.{state}
use Rattle.sqlite.specs.State.{HasCleanDisk, Survives}
use Rattle.plan_records.specs.Answer.{answer_of}
use Rattle.plan_records.specs.Schedules.{IsDeskState}
use Rattle.desk_tables.specs.Desk.{HasTables, HoldsState, IsClean, state_of, usability}
use Rattle.desk_tables.specs.Runs.{AreAnswered, StartsAreProvidedIn, TablesFollow}
use Rattle.desk_tables.specs.Shut.{may_have_shut}
use Rattle.desk_tables.proofs.runs.run_all.Given as goal

abbrev pub invariant-loop-request : goal.invariant-loop-request
invariant-loop-request g l = record {
  so_far : AreAnswered (state_of l.fn.desk) (usability l.fn.desk.is_usable) (take l.request-index l.requests) (map answer_of l.replies.items) (state_of l.desk) (usability l.desk.is_usable);
  sound : IsDeskState (state_of l.desk);
  clean : IsClean (state g.S.Store l.desk.conn) → IsClean (state g.S.Store l.fn.desk.conn);
  is_open : HasCleanDisk (state g.S.Store l.desk.conn) → IsTrue (state g.S.Store l.fn.desk.conn).is_open → list_any may_have_shut (map answer_of l.replies.items) ≡ false → IsTrue (state g.S.Store l.desk.conn).is_open;
  survives : Survives (state g.S.Store l.fn.desk.conn) (state g.S.Store l.desk.conn) (λ _. ⊤);
  tables : IsClean (state g.S.Store l.desk.conn) → HasTables (state g.S.Store l.fn.desk.conn) → HoldsState (state_of l.desk) (state g.S.Store l.desk.conn).committed;
  follow : IsClean (state g.S.Store l.desk.conn) → HasTables (state g.S.Store l.fn.desk.conn)
      → TablesFollow (state_of l.fn.desk) (usability l.fn.desk.is_usable) (take l.request-index l.requests) (map answer_of l.replies.items) (state g.S.Store l.fn.desk.conn).committed (state_of l.desk) (usability l.desk.is_usable) (state g.S.Store l.desk.conn).committed;
  provided : StartsAreProvidedIn (state_of l.fn.desk) (usability l.fn.desk.is_usable) (take l.request-index l.requests) (map answer_of l.replies.items) (state_of l.desk) (usability l.desk.is_usable);
  told : vec_len l.replies ≡ l.request-index;
  room : length l.requests ≤ vec_capacity l.replies;
}
