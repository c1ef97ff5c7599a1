use Rattle.std.proofs.Common.{rules}
use Rattle.desk_tables.proofs.Opened.{is_state, no_receipts_of}
use Rattle.desk_tables.proofs.opening.state_in.Goals as goal

pub returns-in_default-2-clause-state : goal.returns-in_default-2-clause-state
returns-in_default-2-clause-state c =
    no_receipts_of c.in-Some.plan.plan c.is_loaded.result c.args.tables.now.rows.items c.args.tables.now.receipts.items c.is_loaded.ensures
    (rw (c.deref.ensures.value, c.in-Some.is) at c.in_ok-plan.ensures.plan) (search rules)

pub returns-clause-state : goal.returns-clause-state
returns-clause-state c =
    is_state c.in-Some.plan.plan c.in-Some-2.receipts c.args.tables.now.rows.items c.args.tables.now.receipts.items (rw (c.deref.ensures.value, c.in-Some.is) at c.in_ok-plan.ensures.plan)
    (rw (c.deref-2.ensures.value, c.is_loaded.ensures, c.in-Some-2.is) at c.in_ok-receipts.ensures)
