use Rattle.sqlite.specs.Held.{state}
use Rattle.desk_tables.proofs.Told.{taking_reads}
use Rattle.desk_tables.proofs.faults.refusal_told.Goals as goal

pub returns-after-prepare-clause-reads : goal.returns-after-prepare-clause-reads
returns-after-prepare-clause-reads g c =
    taking_reads _ (state g.S.Store c.args.conn.now) (state g.S.Store c.prepare.new.self) _ c.prepare.result c.prepare.ensures.ok c.prepare.ensures.err c.prepare.ensures.survives
