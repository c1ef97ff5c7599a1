use Rattle.std.proofs.Common.{take, refl, arith}
use Rattle.sqlite.specs.Held.{state}
use Rattle.store_reads.specs.Tables.{IsIn}
use Rattle.store_reads.proofs.Reading.{far_next, one_of, other_found}
use Rattle.store_reads.proofs.tables.rows.read_tables.Goals as goal

pub loop-table-preserved : goal.loop-table-preserved
loop-table-preserved g c =
    far_next (state g.S.Store c.args.conn.now) (state g.S.Store c.loop-table.conn) (state g.S.Store c.read_table.new.conn) (take c.loop-table.table-index c.args.tables.now) c.loop-table.rows.items c.read_table.new.into.items _ c.loop-table.invariant
    c.in_ok-read_table.ensures.reads c.in_ok-read_table.field-0 c.in_ok-read_table.ensures.rows c.args.tables.now c.loop-table.table-index _ (omega arith) refl refl c.in_ok-read_table.ensures.idle c.in_ok-read_table.ensures.same c.if-not-branch.false

pub returns-then-not-branch-clause-rows : goal.returns-then-not-branch-clause-rows
returns-then-not-branch-clause-rows g c clean live version all has =
    other_found (state g.S.Store c.args.conn.now) (state g.S.Store c.loop-table.conn) (state g.S.Store c.read_table.new.conn) (take c.loop-table.table-index c.args.tables.now) c.loop-table.rows.items c.read_table.new.into.items _ c.loop-table.invariant
    c.in_ok-read_table.ensures.reads c.in_ok-read_table.field-0 c.in_ok-read_table.ensures.rows c.if-not-branch.true clean live version (one_of (IsIn version) c.args.tables.now c.loop-table.table-index _ (omega arith) all) has
