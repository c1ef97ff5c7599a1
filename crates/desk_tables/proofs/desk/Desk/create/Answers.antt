use Rattle.std.proofs.Common.{sym, subst, Some}
use Rattle.sqlite.specs.Held.{state}
use Rattle.tracker_receipts.specs.plan_laws.proofs.Receipts.{empty_is_desk_state}
use Rattle.plan_records.specs.Run.{State, empty_state, usable}
use Rattle.plan_records.specs.Schedules.{IsDeskState}
use Rattle.desk_tables.specs.Desk.{HoldsState}
use Rattle.desk_tables.proofs.Answered.{states_alike}
use Rattle.desk_tables.proofs.Held.{begun_so}
use Rattle.desk_tables.proofs.Stopped.{desk_stands, making_stops, no_making_stops}
use Rattle.desk_tables.proofs.desk.Desk.create.Goals as goal

pub invariant_of-result : goal.invariant_of-result
invariant_of-result g c =
    let old = state g.S.Store c.args.conn in
    let new = state g.S.Store c.make_tables.new.conn in
    let s : State = record { plan = c.empty.result.plan; receipts = c.in-Ok.receipts } in
    let is = states_alike s empty_state c.empty.ensures c.in-Ok.ensures in
    record {
      legal = subst IsDeskState (sym is) empty_is_desk_state;
      idle = c.make_tables.ensures.idle;
      tables = λ clean has.
          let begins = (c.in-Ok-make_tables.ensures.ok clean.0).3 in
          subst (λ t. HoldsState t new.committed) (sym is) (begun_so old.committed new.committed begins (begins.back has));
    }

pub returns-in-Ok-make_tables-clause-tables : goal.returns-in-Ok-make_tables-clause-tables
returns-in-Ok-make_tables-clause-tables g c clean none =
    begun_so (state g.S.Store c.args.conn).committed (state g.S.Store c.make_tables.new.conn).committed (c.in-Ok-make_tables.ensures.ok clean).3 none

pub returns-in-Ok-make_tables-clause-empty : goal.returns-in-Ok-make_tables-clause-empty
returns-in-Ok-make_tables-clause-empty g c =
    let s : State = record { plan = c.empty.result.plan; receipts = c.in-Ok.receipts } in
    states_alike s empty_state c.empty.ensures c.in-Ok.ensures

pub returns-in-Ok-make_tables-clause-stops : goal.returns-in-Ok-make_tables-clause-stops
returns-in-Ok-make_tables-clause-stops g c is_open none =
    making_stops (state g.S.Store c.args.conn) (λ trees may. g.met.S.Store.settled c.args.conn.store trees is_open may) (state g.S.Store c.make_tables.new.conn) is_open none c.in-Ok-make_tables.ensures.crash

pub returns-then-is_busy-clause-stops : goal.returns-then-is_busy-clause-stops
returns-then-is_busy-clause-stops g c is_open none = no_making_stops (state g.S.Store c.args.conn) (λ trees may. g.met.S.Store.settled c.args.conn.store trees is_open may)

pub returns-in-Err-clause-stops : goal.returns-in-Err-clause-stops
returns-in-Err-clause-stops g c is_open none = no_making_stops (state g.S.Store c.args.conn) (λ trees may. g.met.S.Store.settled c.args.conn.store trees is_open may)

pub returns-in-Err-make_tables-clause-stops : goal.returns-in-Err-make_tables-clause-stops
returns-in-Err-make_tables-clause-stops g c is_open none =
    making_stops (state g.S.Store c.args.conn) (λ trees may. g.met.S.Store.settled c.args.conn.store trees is_open may) (state g.S.Store c.make_tables.new.conn) is_open none c.in-Err-make_tables.ensures.crash

pub returns-in-Ok-make_tables-clause-stops_after : goal.returns-in-Ok-make_tables-clause-stops_after
returns-in-Ok-make_tables-clause-stops_after g c =
    desk_stands (state g.S.Store c.make_tables.new.conn) (λ is_open trees may. g.met.S.Store.settled c.make_tables.new.conn.store trees is_open may) (record { plan = c.empty.result.plan; receipts = c.in-Ok.receipts }) (Some usable)
    (invariant_of-result g c).tables
