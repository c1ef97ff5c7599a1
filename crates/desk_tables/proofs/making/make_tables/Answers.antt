use Rattle.sqlite.specs.Held.{state}
use Rattle.desk_tables.proofs.Told.{opening_is, told_named, told_survives, told_undone}
use Rattle.plan_writes.specs.Within.{Begins, LeavesMade}
use Rattle.desk_tables.proofs.making.make_tables.Goals as goal

pub returns-in-Err-clause-refused : goal.returns-in-Err-clause-refused
returns-in-Err-clause-refused g c = c.refusal_told.ensures.refused (opening_is c.in-Err.error c.opening_refusal.result c.opening_refusal.ensures)

pub returns-in-Err-clause-damaged : goal.returns-in-Err-clause-damaged
returns-in-Err-clause-damaged g c =
    told_named (state g.S.Store c.args.conn.now) (state g.S.Store c.create_tables.new.conn) (state g.S.Store c.refusal_told.new.conn) c.refusal_told.ensures.reads c.refusal_told.result c.refusal_told.ensures.is_open c.opening_refusal.result c.refusal_told.ensures.same
    _ c.in-Err.error c.opening_refusal.ensures c.in-Err.ensures.names

pub returns-in-Err-clause-undone : goal.returns-in-Err-clause-undone
returns-in-Err-clause-undone g c =
    told_undone (state g.S.Store c.args.conn.now) (state g.S.Store c.create_tables.new.conn) (state g.S.Store c.refusal_told.new.conn) c.refusal_told.ensures.reads c.refusal_told.result c.refusal_told.ensures.is_open
    (c.refusal_told.ensures.refused (opening_is c.in-Err.error c.opening_refusal.result c.opening_refusal.ensures)) (λ clean is_open. (c.in-Err.ensures.err clean is_open).2)

pub returns-in-Err-clause-crash : goal.returns-in-Err-clause-crash
returns-in-Err-clause-crash g c =
    told_survives (state g.S.Store c.args.conn.now) (state g.S.Store c.create_tables.new.conn) (state g.S.Store c.refusal_told.new.conn) c.refusal_told.ensures.reads (LeavesMade Begins (state g.S.Store c.args.conn.now)) c.create_tables.ensures.crash
