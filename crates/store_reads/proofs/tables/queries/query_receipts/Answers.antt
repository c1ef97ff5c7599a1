use Rattle.sqlite.specs.Held.{state}
use Rattle.store_schema.specs.Schema.{schema_of}
use Rattle.store_schema.specs.declared.texts.TheConstants.{READ_RECEIPT}
use Rattle.store_reads.specs.Tables.{receipt_rows}
use Rattle.store_reads.proofs.Faults.{query_faults, receipts_plain}
use Rattle.store_reads.proofs.Queried.{all_shown, only_reads, receipts_shown, same_shown}
use Rattle.store_reads.proofs.QueryTexts.{receipt_is_query}
use Rattle.store_reads.proofs.tables.queries.query_receipts.Goals as goal

pub returns-clause-reads : goal.returns-clause-reads
returns-clause-reads g c =
    let old = state g.S.Store c.args.conn.now in
    let new = state g.S.Store c.query_all.new.self in
    only_reads READ_RECEIPT.now receipt_is_query old new c.query_all.result
    c.query_all.ensures.ok
    c.query_all.ensures.err
    c.query_all.ensures.survives

pub returns-clause-same : goal.returns-clause-same
returns-clause-same g c clean =
    same_shown READ_RECEIPT.now receipt_is_query (state g.S.Store c.args.conn.now) (state g.S.Store c.query_all.new.self) c.query_all.result (c.query_all.ensures.ok clean)

pub returns-clause-rows : goal.returns-clause-rows
returns-clause-rows g c clean live version has =
    let old = state g.S.Store c.args.conn.now in
    let new = state g.S.Store c.query_all.new.self in
    all_shown READ_RECEIPT.now receipt_is_query old new (receipt_rows old.now.trees) (λ rows sound. receipts_shown version old new rows sound has) c.query_all.result live (c.query_all.ensures.ok clean)

pub returns-clause-understood : goal.returns-clause-understood
returns-clause-understood g c clean version has =
    query_faults READ_RECEIPT.now receipt_is_query (schema_of version) (receipts_plain version) (state g.S.Store c.args.conn.now) (state g.S.Store c.query_all.new.self) has c.query_all.result (c.query_all.ensures.err clean)
