use Rattle.sqlite.specs.Held.{state}
use Rattle.store_schema.specs.Schema.{schema_of}
use Rattle.store_reads.specs.Tables.{rows_of, text_for}
use Rattle.store_reads.proofs.Faults.{each_plain, query_faults}
use Rattle.store_reads.proofs.Queried.{all_shown, only_reads, rows_shown, same_shown}
use Rattle.store_reads.proofs.QueryTexts.{each_is_query}
use Rattle.store_reads.proofs.tables.queries.query_table.Goals as goal

pub returns-clause-reads : goal.returns-clause-reads
returns-clause-reads g c =
    let old = state g.S.Store c.args.conn.now in
    let new = state g.S.Store c.query_all.new.self in
    only_reads (text_for c.args.table) (each_is_query c.args.table) old new c.query_all.result
    (rw c.read_text.ensures at c.query_all.ensures.ok)
    (rw c.read_text.ensures at c.query_all.ensures.err)
    (rw c.read_text.ensures at c.query_all.ensures.survives)

pub returns-clause-same : goal.returns-clause-same
returns-clause-same g c clean =
    same_shown (text_for c.args.table) (each_is_query c.args.table) (state g.S.Store c.args.conn.now) (state g.S.Store c.query_all.new.self) c.query_all.result (rw c.read_text.ensures at (c.query_all.ensures.ok clean))

pub returns-clause-rows : goal.returns-clause-rows
returns-clause-rows g c clean live version is_in has =
    let old = state g.S.Store c.args.conn.now in
    let new = state g.S.Store c.query_all.new.self in
    all_shown (text_for c.args.table) (each_is_query c.args.table) old new (rows_of c.args.table old.now.trees) (λ rows sound. rows_shown version c.args.table is_in old new rows sound has) c.query_all.result live (rw c.read_text.ensures at (c.query_all.ensures.ok clean))

pub returns-clause-understood : goal.returns-clause-understood
returns-clause-understood g c clean version is_in has =
    query_faults (text_for c.args.table) (each_is_query c.args.table) (schema_of version) (each_plain version c.args.table is_in) (state g.S.Store c.args.conn.now) (state g.S.Store c.query_all.new.self) has c.query_all.result (rw c.read_text.ensures at (c.query_all.ensures.err clean))
