use Rattle.std.proofs.Common.{Ok, Err}
use Rattle.sqlite.specs.Effect.{Database}
use Rattle.sqlite.specs.Held.{state}
use Rattle.store_schema.specs.Schema.{amount, quantity, first_schema, schema_10, desk_schema}
use Rattle.store_schema.specs.StoredPlans.{with_meta}
use Rattle.store_schema.specs.Columns.{meta_columns}
use Rattle.plan_writes.specs.Upgrading.{Adds, Upgrades}
use Rattle.plan_writes.specs.Within.{Rewrites, RunsWithin}
use Rattle.plan_writes.proofs.Upgraded.{free_after, named_as, upgraded}
use Rattle.plan_writes.proofs.Within.{then_runs}
use Rattle.plan_writes.proofs.upgrade.upgrade_all.Goals as goal

-- both tables are made
abbrev Both : Database → Database → Type 0
Both before after = (between : Database) × Adds first_schema quantity before between × Adds schema_10 amount between after

pub returns-in_err-add_amount-clause-names : goal.returns-in_err-add_amount-clause-names
returns-in_err-add_amount-clause-names g c =
    let old = state g.S.Store c.args.tx.now.conn.now in
    let mid = state g.S.Store c.add_quantity.new.tx.conn.now in
    let new = state g.S.Store c.add_amount.new.tx.conn.now in
    named_as first_schema old new c.in_err-add_amount.field-0.0 c.from_residual-in_err-add_amount.result c.from_residual-in_err-add_amount.ensures.1
    (free_after (Adds first_schema quantity) first_schema schema_10 old mid new c.in_ok-add_quantity.ensures.made (λ a has. (a.made has).1) c.in_err-add_amount.ensures.made.survives (Err c.in_err-add_amount.field-0.0) c.in_err-add_amount.ensures.names)

pub returns-clause-made : goal.returns-clause-made
returns-clause-made g c =
    let old = state g.S.Store c.args.tx.now.conn.now in
    let mid = state g.S.Store c.add_quantity.new.tx.conn.now in
    let made = state g.S.Store c.add_amount.new.tx.conn.now in
    let new = state g.S.Store c.put_meta.new.tx.conn.now in
    let Puts = Rewrites (with_meta (meta_columns 2 c.args.loaded c.args.clock)) in
    let added : RunsWithin Both old made (Ok tt) = then_runs (Adds first_schema quantity) (Adds schema_10 amount) Both old mid made c.in_ok-add_quantity.ensures.made (λ before between after one two. (between, one, two)) (Ok tt) c.in_ok-add_amount.ensures.made in
    then_runs Both Puts (Upgrades c.args.loaded c.args.clock) old made new added (λ before between after both put. upgraded c.args.loaded c.args.clock before between after both put) c.put_meta.result c.put_meta.ensures.written

pub returns-clause-names : goal.returns-clause-names
returns-clause-names g c =
    let old = state g.S.Store c.args.tx.now.conn.now in
    let mid = state g.S.Store c.add_quantity.new.tx.conn.now in
    let made = state g.S.Store c.add_amount.new.tx.conn.now in
    let new = state g.S.Store c.put_meta.new.tx.conn.now in
    let added : RunsWithin Both old made (Ok tt) = then_runs (Adds first_schema quantity) (Adds schema_10 amount) Both old mid made c.in_ok-add_quantity.ensures.made (λ before between after one two. (between, one, two)) (Ok tt) c.in_ok-add_amount.ensures.made in
    free_after Both first_schema desk_schema old made new added (λ a has. (a.2.made (a.1.made has).1).1) c.put_meta.ensures.written.survives c.put_meta.result c.put_meta.ensures.names
