use Rattle.sqlite.specs.Held.{state}
use Rattle.desk_tables.proofs.Opened.{other_opened}
use Rattle.desk_tables.proofs.opening.kept_tables.Goals as goal

pub returns-in-Ok-None-clause-damaged : goal.returns-in-Ok-None-clause-damaged
returns-in-Ok-None-clause-damaged g c is clean version has = other_opened version (state g.S.Store c.read_rows.new.conn).committed (rw c.in-Ok-None.field-0-is at (c.in-Ok-None.ensures.rows clean.0 clean.1 version has))
