use Rattle.std.proofs.Common.{arith, subst, sym, Some}
use Rattle.sqlite.specs.Effect.{Database}
use Rattle.sqlite.specs.Held.{state}
use Rattle.sqlite.specs.State.{HasCleanDisk}
use Rattle.store_reads.specs.Versions.{HasTableQuantity}
use Rattle.plan_records.specs.Run.{usable}
use Rattle.desk_tables.proofs.Stopped.{bringing_finds, bringing_stops, desk_stands, desk_stops, never_damaged, no_bringing_stops, no_reading_stops, opening_finds}
use Rattle.desk_tables.proofs.desk.Desk.open.Goals as goal

pub returns-then-is_busy-clause-stops : goal.returns-then-is_busy-clause-stops
returns-then-is_busy-clause-stops g c is_open s held = no_reading_stops (state g.S.Store c.args.conn) (λ trees may. g.met.S.Store.settled c.args.conn.store trees is_open may) s held

pub returns-then-is_busy-clause-stops_first : goal.returns-then-is_busy-clause-stops_first
returns-then-is_busy-clause-stops_first g c is_open s legal held = no_bringing_stops (state g.S.Store c.args.conn) (λ trees may. g.met.S.Store.settled c.args.conn.store trees is_open may) s held

pub returns-in-Err-clause-undamaged : goal.returns-in-Err-clause-undamaged
returns-in-Err-clause-undamaged g c is clean s legal version left =
    let is_open = c.in-Err.ensures.still_open is clean in
    never_damaged version s (state g.S.Store c.args.conn) (state g.S.Store c.found_state.new.conn) c.found_state.ensures.live clean is_open (c.found_state.ensures.kept clean is_open) legal left
    (c.in-Err.ensures.undone clean (λ _. is_open)) (c.in-Err.ensures.damaged is clean)

pub returns-in-Err-clause-stops : goal.returns-in-Err-clause-stops
returns-in-Err-clause-stops g c is_open s held =
    desk_stops (state g.S.Store c.args.conn) (λ trees may. g.met.S.Store.settled c.args.conn.store trees is_open may) (state g.S.Store c.found_state.new.conn) s is_open c.found_state.ensures.live (c.is_busy.ensures.settled c.if-is_busy.false) held c.found_state.ensures.reads

pub returns-in-Err-clause-stops_first : goal.returns-in-Err-clause-stops_first
returns-in-Err-clause-stops_first g c is_open s legal held =
    bringing_stops (state g.S.Store c.args.conn) (λ trees may. g.met.S.Store.settled c.args.conn.store trees is_open may) (state g.S.Store c.found_state.new.conn) s is_open c.found_state.ensures.live legal held c.found_state.ensures.survives

pub returns-clause-found : goal.returns-clause-found
returns-clause-found g c clean s legal left =
    opening_finds s (state g.S.Store c.args.conn) (state g.S.Store c.found_state.new.conn) c.found_state.ensures.live (c.is_busy.ensures.settled c.if-is_busy.false) c.found_state.ensures.reads clean (c.in-Ok.ensures.is_open clean)
    (c.found_state.ensures.kept clean (c.in-Ok.ensures.is_open clean)) legal left
    (record { plan = c.in-Ok.found.0.plan; receipts = c.in-Ok.found.1 }) c.in-Ok.ensures.sound (c.in-Ok.ensures.tables (clean, c.in-Ok.ensures.is_open clean))

pub returns-clause-found_first : goal.returns-clause-found_first
returns-clause-found_first g c clean s legal left =
    bringing_finds s (state g.S.Store c.args.conn) (state g.S.Store c.found_state.new.conn) c.found_state.ensures.live clean (c.in-Ok.ensures.is_open clean) (c.found_state.ensures.kept clean (c.in-Ok.ensures.is_open clean)) legal left
    (record { plan = c.in-Ok.found.0.plan; receipts = c.in-Ok.found.1 }) c.in-Ok.ensures.sound (c.in-Ok.ensures.of_first clean)

pub returns-clause-stops : goal.returns-clause-stops
returns-clause-stops g c is_open s held =
    desk_stops (state g.S.Store c.args.conn) (λ trees may. g.met.S.Store.settled c.args.conn.store trees is_open may) (state g.S.Store c.found_state.new.conn) s is_open c.found_state.ensures.live (c.is_busy.ensures.settled c.if-is_busy.false) held c.found_state.ensures.reads

pub returns-clause-stops_first : goal.returns-clause-stops_first
returns-clause-stops_first g c is_open s legal held =
    bringing_stops (state g.S.Store c.args.conn) (λ trees may. g.met.S.Store.settled c.args.conn.store trees is_open may) (state g.S.Store c.found_state.new.conn) s is_open c.found_state.ensures.live legal held c.found_state.ensures.survives

pub returns-clause-reads : goal.returns-clause-reads
returns-clause-reads g c is_open has = c.found_state.ensures.reads (subst (λ (db : Database). HasTableQuantity db.schema) (sym (c.is_busy.ensures.settled c.if-is_busy.false is_open)) has)

pub returns-in-Err-clause-unchanged : goal.returns-in-Err-clause-unchanged
returns-in-Err-clause-unchanged g c is_open has = c.found_state.ensures.reads (subst (λ (db : Database). HasTableQuantity db.schema) (sym (c.is_busy.ensures.settled c.if-is_busy.false is_open)) has)

pub returns-clause-stops_after : goal.returns-clause-stops_after
returns-clause-stops_after g c =
    desk_stands (state g.S.Store c.found_state.new.conn) (λ is_open trees may. g.met.S.Store.settled c.found_state.new.conn.store trees is_open may) (record { plan = c.in-Ok.found.0.plan; receipts = c.in-Ok.found.1 }) (Some usable) c.in-Ok.ensures.tables

pub returns-clause-clean : goal.returns-clause-clean
returns-clause-clean g c clean = let it : HasCleanDisk (state g.S.Store c.args.conn) = omega (arith, clean, c.found_state.ensures.survives.clean) in it

pub returns-in-Err-clause-clean : goal.returns-in-Err-clause-clean
returns-in-Err-clause-clean g c clean = let it : HasCleanDisk (state g.S.Store c.args.conn) = omega (arith, clean, c.found_state.ensures.survives.clean) in it
