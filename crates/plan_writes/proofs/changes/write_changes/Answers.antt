use Rattle.std.proofs.Common.{◌∙◌, rules, ap, not}
use Rattle.sqlite.specs.Held.{state}
use Rattle.store_schema.specs.WrittenTables.{written}
use Rattle.plan_writes.specs.Within.{Rewrites}
use Rattle.plan_writes.proofs.Whole.{whole_crash, whole_ok}
use Rattle.plan_writes.proofs.changes.write_changes.Goals as goal

pub returns-clause-ok : goal.returns-clause-ok
returns-clause-ok g c =
    whole_ok g.S.Store (Rewrites (written c.args.rows.now c.args.gone.now)) c.args.conn.now c.transaction-tx.result.conn.now (state g.S.Store c.write_and_drop.new.tx.conn.now) c.commit.new.self.0 c.conn-2-1.given.0 c.transaction-tx.ensures.begun (search rules)
    (c.is_autocommit.ensures.settled (c.is_autocommit.ensures.value ∙ ap not c.requires)) c.in_ok-write_and_drop.ensures.written c.commit.ensures.survives c.commit.result c.commit.ensures.ok

pub returns-clause-crash : goal.returns-clause-crash
returns-clause-crash g c =
    whole_crash g.S.Store (Rewrites (written c.args.rows.now c.args.gone.now)) c.args.conn.now c.transaction-tx.result.conn.now (state g.S.Store c.write_and_drop.new.tx.conn.now) c.commit.new.self.0 c.conn-2-1.given.0 c.transaction-tx.ensures.begun (search rules)
    (c.is_autocommit.ensures.settled (c.is_autocommit.ensures.value ∙ ap not c.requires)) c.in_ok-write_and_drop.ensures.written c.commit.ensures.survives
