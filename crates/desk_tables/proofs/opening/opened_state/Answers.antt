use Rattle.std.proofs.Common.{◌≡◌, ap}
use Rattle.sqlite.specs.Held.{state}
use Rattle.plan_basics.specs.declared.Refusal.{Refusal}
use Rattle.desk_tables.specs.Desk.{IsClean}
use Rattle.desk_tables.proofs.BroughtUp.{first_both, handed_on, kept_both, nothing_brought, open_both, reads_both, survives_both, tables_both, told_both, undone_both}
use Rattle.desk_tables.proofs.opening.opened_state.Goals as goal

-- ---- the reading was refused

pub returns-in_err-stored-clause-survives : goal.returns-in_err-stored-clause-survives
returns-in_err-stored-clause-survives g c = nothing_brought (state g.S.Store c.args.conn.now) (state g.S.Store c.stored_state.new.conn) c.in_err-stored.ensures.reads

pub returns-in_err-stored-clause-kept : goal.returns-in_err-stored-clause-kept
returns-in_err-stored-clause-kept g c clean is_open = (c.in_err-stored.ensures.reads.kept clean).was_open is_open

pub returns-in_err-stored-clause-undone : goal.returns-in_err-stored-clause-undone
returns-in_err-stored-clause-undone g c =
    handed_on (λ (r : Refusal). IsClean (state g.S.Store c.stored_state.new.conn) → (state g.S.Store c.stored_state.new.conn).committed ≡ (state g.S.Store c.args.conn.now).committed) c.from_residual.result c.in_err-stored.field-0.0
    c.from_residual.ensures.1 (λ clean. (c.in_err-stored.ensures.reads.kept clean.0).committed clean.1)

pub returns-in_err-stored-clause-damaged : goal.returns-in_err-stored-clause-damaged
returns-in_err-stored-clause-damaged g c = handed_on _ c.from_residual.result c.in_err-stored.field-0.0 c.from_residual.ensures.1 c.in_err-stored.ensures.damaged

-- ---- it went well, and bringing up was refused

pub returns-in_err-bring_up-clause-survives : goal.returns-in_err-bring_up-clause-survives
returns-in_err-bring_up-clause-survives g c =
    survives_both (state g.S.Store c.args.conn.now) (state g.S.Store c.stored_state.new.conn) (state g.S.Store c.bring_up.new.conn) (record { plan = c.in_ok-stored.stored.plan.plan; receipts = c.in_ok-stored.stored.receipts }) c.in_ok-stored.stored.version
    c.in_ok-stored.ensures.reads c.in_ok-stored.ensures.is_open c.in_ok-stored.ensures.tables (λ is. ap (state g.S.Store) (c.in_err-bring_up.ensures.second is).0) c.in_err-bring_up.ensures.crash c.in_ok-stored.ensures.sound

pub returns-in_err-bring_up-clause-reads : goal.returns-in_err-bring_up-clause-reads
returns-in_err-bring_up-clause-reads g c has =
    reads_both (state g.S.Store c.args.conn.now) (state g.S.Store c.stored_state.new.conn) (state g.S.Store c.bring_up.new.conn) (record { plan = c.in_ok-stored.stored.plan.plan; receipts = c.in_ok-stored.stored.receipts }) c.in_ok-stored.stored.version
    c.in_ok-stored.ensures.reads c.in_ok-stored.ensures.is_open c.in_ok-stored.ensures.tables (λ is. ap (state g.S.Store) (c.in_err-bring_up.ensures.second is).0) c.in_err-bring_up.ensures.crash (c.in_ok-stored.ensures.second has)

pub returns-in_err-bring_up-clause-kept : goal.returns-in_err-bring_up-clause-kept
returns-in_err-bring_up-clause-kept g c clean is_open =
    kept_both (state g.S.Store c.args.conn.now) (state g.S.Store c.stored_state.new.conn) (state g.S.Store c.bring_up.new.conn) (record { plan = c.in_ok-stored.stored.plan.plan; receipts = c.in_ok-stored.stored.receipts }) c.in_ok-stored.stored.version
    c.in_ok-stored.ensures.reads c.in_ok-stored.ensures.is_open c.in_ok-stored.ensures.tables (λ is. ap (state g.S.Store) (c.in_err-bring_up.ensures.second is).0) c.in_err-bring_up.ensures.crash clean

pub returns-in_err-bring_up-clause-undone : goal.returns-in_err-bring_up-clause-undone
returns-in_err-bring_up-clause-undone g c =
    handed_on _ c.from_residual-in_err-bring_up.result c.in_err-bring_up.field-0.0 c.from_residual-in_err-bring_up.ensures.1
    (undone_both (state g.S.Store c.args.conn.now) (state g.S.Store c.stored_state.new.conn) (state g.S.Store c.bring_up.new.conn) (record { plan = c.in_ok-stored.stored.plan.plan; receipts = c.in_ok-stored.stored.receipts }) c.in_ok-stored.stored.version
    c.in_ok-stored.ensures.reads c.in_ok-stored.ensures.is_open c.in_ok-stored.ensures.tables (λ is. ap (state g.S.Store) (c.in_err-bring_up.ensures.second is).0) c.in_err-bring_up.ensures.crash
    (λ is. (c.in_err-bring_up.ensures.second is).1) c.in_err-bring_up.ensures.err)

pub returns-in_err-bring_up-clause-damaged : goal.returns-in_err-bring_up-clause-damaged
returns-in_err-bring_up-clause-damaged g c =
    handed_on _ c.from_residual-in_err-bring_up.result c.in_err-bring_up.field-0.0 c.from_residual-in_err-bring_up.ensures.1
    (told_both (state g.S.Store c.args.conn.now) (state g.S.Store c.stored_state.new.conn) (state g.S.Store c.bring_up.new.conn) (record { plan = c.in_ok-stored.stored.plan.plan; receipts = c.in_ok-stored.stored.receipts }) c.in_ok-stored.stored.version
    c.in_ok-stored.ensures.reads c.in_ok-stored.ensures.is_open c.in_ok-stored.ensures.tables (λ is. ap (state g.S.Store) (c.in_err-bring_up.ensures.second is).0) c.in_err-bring_up.ensures.crash
    (λ is. (c.in_err-bring_up.ensures.second is).1) c.in_err-bring_up.ensures.err c.in_err-bring_up.field-0.0 c.in_err-bring_up.ensures.damaged)

-- ---- both went well

pub returns-clause-survives : goal.returns-clause-survives
returns-clause-survives g c =
    survives_both (state g.S.Store c.args.conn.now) (state g.S.Store c.stored_state.new.conn) (state g.S.Store c.bring_up.new.conn) (record { plan = c.in_ok-stored.stored.plan.plan; receipts = c.in_ok-stored.stored.receipts }) c.in_ok-stored.stored.version
    c.in_ok-stored.ensures.reads c.in_ok-stored.ensures.is_open c.in_ok-stored.ensures.tables (λ is. ap (state g.S.Store) (c.in_ok-bring_up.ensures.second is).0) c.in_ok-bring_up.ensures.crash c.in_ok-stored.ensures.sound

pub returns-clause-reads : goal.returns-clause-reads
returns-clause-reads g c has =
    reads_both (state g.S.Store c.args.conn.now) (state g.S.Store c.stored_state.new.conn) (state g.S.Store c.bring_up.new.conn) (record { plan = c.in_ok-stored.stored.plan.plan; receipts = c.in_ok-stored.stored.receipts }) c.in_ok-stored.stored.version
    c.in_ok-stored.ensures.reads c.in_ok-stored.ensures.is_open c.in_ok-stored.ensures.tables (λ is. ap (state g.S.Store) (c.in_ok-bring_up.ensures.second is).0) c.in_ok-bring_up.ensures.crash (c.in_ok-stored.ensures.second has)

pub returns-clause-kept : goal.returns-clause-kept
returns-clause-kept g c clean is_open =
    kept_both (state g.S.Store c.args.conn.now) (state g.S.Store c.stored_state.new.conn) (state g.S.Store c.bring_up.new.conn) (record { plan = c.in_ok-stored.stored.plan.plan; receipts = c.in_ok-stored.stored.receipts }) c.in_ok-stored.stored.version
    c.in_ok-stored.ensures.reads c.in_ok-stored.ensures.is_open c.in_ok-stored.ensures.tables (λ is. ap (state g.S.Store) (c.in_ok-bring_up.ensures.second is).0) c.in_ok-bring_up.ensures.crash clean

pub returns-clause-is_open : goal.returns-clause-is_open
returns-clause-is_open g c clean =
    open_both (state g.S.Store c.args.conn.now) (state g.S.Store c.stored_state.new.conn) (state g.S.Store c.bring_up.new.conn) (record { plan = c.in_ok-stored.stored.plan.plan; receipts = c.in_ok-stored.stored.receipts }) c.in_ok-stored.stored.version
    c.in_ok-stored.ensures.reads c.in_ok-stored.ensures.is_open c.in_ok-stored.ensures.tables (λ is. ap (state g.S.Store) (c.in_ok-bring_up.ensures.second is).0) c.in_ok-bring_up.ensures.crash c.in_ok-bring_up.ensures.ok clean

pub returns-clause-tables : goal.returns-clause-tables
returns-clause-tables g c clean has =
    tables_both (state g.S.Store c.args.conn.now) (state g.S.Store c.stored_state.new.conn) (state g.S.Store c.bring_up.new.conn) (record { plan = c.in_ok-stored.stored.plan.plan; receipts = c.in_ok-stored.stored.receipts }) c.in_ok-stored.stored.version
    c.in_ok-stored.ensures.reads c.in_ok-stored.ensures.is_open c.in_ok-stored.ensures.tables (λ is. ap (state g.S.Store) (c.in_ok-bring_up.ensures.second is).0) c.in_ok-bring_up.ensures.crash c.in_ok-bring_up.ensures.ok clean.0 has

pub returns-clause-of_first : goal.returns-clause-of_first
returns-clause-of_first g c clean has =
    first_both (state g.S.Store c.args.conn.now) (state g.S.Store c.stored_state.new.conn) (state g.S.Store c.bring_up.new.conn) (record { plan = c.in_ok-stored.stored.plan.plan; receipts = c.in_ok-stored.stored.receipts }) c.in_ok-stored.stored.version
    c.in_ok-stored.ensures.reads c.in_ok-stored.ensures.is_open c.in_ok-stored.ensures.tables (λ is. ap (state g.S.Store) (c.in_ok-bring_up.ensures.second is).0) c.in_ok-bring_up.ensures.crash c.in_ok-bring_up.ensures.ok clean has
