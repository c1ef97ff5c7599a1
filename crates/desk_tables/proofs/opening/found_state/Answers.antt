use Rattle.sqlite.specs.Held.{state}
use Rattle.desk_tables.specs.Opening.{MayBringUp}
use Rattle.desk_tables.proofs.Told.{reads_on, told_damaged, told_kept, told_survives, told_undone}
use Rattle.desk_tables.proofs.opening.found_state.Goals as goal

pub returns-in-Err-clause-reads : goal.returns-in-Err-clause-reads
returns-in-Err-clause-reads g c has =
    reads_on (state g.S.Store c.args.conn.now) (state g.S.Store c.opened_state.new.conn) (state g.S.Store c.refusal_told.new.conn) c.refusal_told.ensures.reads (c.opened_state.ensures.reads has)

pub returns-in-Err-clause-damaged : goal.returns-in-Err-clause-damaged
returns-in-Err-clause-damaged g c =
    told_damaged (state g.S.Store c.args.conn.now) (state g.S.Store c.opened_state.new.conn) (state g.S.Store c.refusal_told.new.conn) c.refusal_told.ensures.reads c.refusal_told.result c.refusal_told.ensures.is_open c.in-Err.refusal c.refusal_told.ensures.same
    c.in-Err.ensures.damaged

pub returns-in-Err-clause-kept : goal.returns-in-Err-clause-kept
returns-in-Err-clause-kept g c =
    told_kept (state g.S.Store c.args.conn.now) (state g.S.Store c.opened_state.new.conn) (state g.S.Store c.refusal_told.new.conn) c.refusal_told.ensures.reads c.opened_state.ensures.kept

pub returns-in-Err-clause-undone : goal.returns-in-Err-clause-undone
returns-in-Err-clause-undone g c =
    told_undone (state g.S.Store c.args.conn.now) (state g.S.Store c.opened_state.new.conn) (state g.S.Store c.refusal_told.new.conn) c.refusal_told.ensures.reads c.refusal_told.result c.refusal_told.ensures.is_open
    (c.refusal_told.ensures.refused c.in-Err.ensures.refused) (λ clean is_open. c.in-Err.ensures.undone (clean, is_open))

pub returns-in-Err-clause-survives : goal.returns-in-Err-clause-survives
returns-in-Err-clause-survives g c =
    told_survives (state g.S.Store c.args.conn.now) (state g.S.Store c.opened_state.new.conn) (state g.S.Store c.refusal_told.new.conn) c.refusal_told.ensures.reads (MayBringUp (state g.S.Store c.args.conn.now)) c.opened_state.ensures.survives
