use Rattle.sqlite.specs.Held.{state}
use Rattle.store_schema.specs.Schema.{desk_schema}
use Rattle.store_schema.specs.StoredPlans.{with_meta, meta_values}
use Rattle.store_schema.specs.declared.texts.TheConstants.{PUT_META}
use Rattle.store_schema.proofs.MetaTexts.{put_is, put_plain}
use Rattle.store_schema.proofs.Metas.{meta_put}
use Rattle.store_schema.specs.Columns.{meta_columns}
use Rattle.plan_writes.proofs.Faults.{finds_table_named}
use Rattle.plan_writes.proofs.Growth.{rewrites_so}
use Rattle.plan_writes.proofs.Texts.{writes_meta}
use Rattle.plan_writes.proofs.resource_rows.put_meta.Goals as goal

pub returns-clause-written : goal.returns-clause-written
returns-clause-written g c =
    let old = state g.S.Store c.args.tx.now.conn.now in
    let new = state g.S.Store c.run_text.new.tx.conn.now in
    let x = meta_columns c.args.version c.args.loaded c.args.clock in
    rewrites_so (with_meta x) PUT_META.now writes_meta (meta_values x) old new (meta_put old new x) c.run_text.result
    (λ clean inside. rw (c.number.ensures, c.number-2.ensures, c.flag.ensures, c.minute.ensures) at (c.run_text.ensures.runs clean inside))
    c.run_text.ensures.survives

pub returns-clause-names : goal.returns-clause-names
returns-clause-names g c =
    let x = meta_columns c.args.version c.args.loaded c.args.clock in
    finds_table_named desk_schema PUT_META.now (meta_values x) _ _ _ _ put_is put_plain (state g.S.Store c.args.tx.now.conn.now) (state g.S.Store c.run_text.new.tx.conn.now) c.run_text.result
    (λ clean inside. rw (c.number.ensures, c.number-2.ensures, c.flag.ensures, c.minute.ensures) at (c.run_text.ensures.runs clean inside))
