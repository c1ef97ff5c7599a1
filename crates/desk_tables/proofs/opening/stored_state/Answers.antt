use Rattle.std.proofs.Common.{◌∙◌}
use Rattle.sqlite.specs.Held.{state}
use Rattle.desk_tables.proofs.BroughtUp.{handed_on}
use Rattle.desk_tables.proofs.Opened.{none_opened, state_opened}
use Rattle.desk_tables.proofs.opening.stored_state.Goals as goal

pub returns-in_err-read-clause-damaged : goal.returns-in_err-read-clause-damaged
returns-in_err-read-clause-damaged g c = handed_on _ c.from_residual.result c.in_err-read.field-0.0 c.from_residual.ensures.1 c.in_err-read.ensures.damaged

pub returns-in-Some-clause-version : goal.returns-in-Some-clause-version
returns-in-Some-clause-version g c version has = c.in_ok-tables.ensures.version ∙ c.in_ok-read.ensures.version version has

pub returns-in-Some-clause-second : goal.returns-in-Some-clause-second
returns-in-Some-clause-second g c has = c.in_ok-tables.ensures.version ∙ c.in_ok-read.ensures.second has

pub returns-in-Some-clause-tables : goal.returns-in-Some-clause-tables
returns-in-Some-clause-tables g c clean version has =
    let read = c.in_ok-read.read in
    let it = c.in_ok-read.ensures.rows clean version has in (
      c.in_ok-tables.ensures.version ∙ it.0,
      state_opened version read.version read.rows.items c.in_ok-tables.tables.rows.items read.receipts.items c.in_ok-tables.tables.receipts.items (state g.S.Store c.kept_tables.new.conn).committed it.0 c.in_ok-tables.ensures.rows c.in_ok-tables.ensures.receipts it.1
          (record { plan = c.in-Some.found.0.plan; receipts = c.in-Some.found.1 }) (rw c.in-Some.is at c.in_ok-found.ensures.state),
    )

pub returns-clause-damaged : goal.returns-clause-damaged
returns-clause-damaged g c is clean version has =
    let read = c.in_ok-read.read in
    let it = c.in_ok-read.ensures.rows clean version has in
    none_opened version read.version read.rows.items c.in_ok-tables.tables.rows.items read.receipts.items c.in_ok-tables.tables.receipts.items (state g.S.Store c.kept_tables.new.conn).committed it.0 c.in_ok-tables.ensures.rows c.in_ok-tables.ensures.receipts it.1
    (rw c.in-None.is at c.in_ok-found.ensures.state)
