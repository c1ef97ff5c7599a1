use Rattle.std.proofs.Common.{◌≡◌, subst, sym}
use Rattle.sqlite.specs.Held.{state}
use Rattle.store_schema.specs.Schema.{schema_of}
use Rattle.store_reads.specs.Versions.{HasTableQuantity}
use Rattle.store_reads.proofs.Faults.{committed_faults}
use Rattle.store_reads.proofs.Reading.{committed_rows, second_named, version_named}
use Rattle.store_reads.proofs.tables.rows.read_rows.Goals as goal

pub returns-clause-version : goal.returns-clause-version
returns-clause-version g c = version_named c.version_in.result (state g.S.Store c.args.conn.now).now c.read_all.result c.version_in.ensures.version c.read_all.ensures.version

pub returns-clause-second : goal.returns-clause-second
returns-clause-second g c = second_named c.version_in.result (HasTableQuantity (state g.S.Store c.args.conn.now).now.schema) c.read_all.result c.version_in.ensures.second c.read_all.ensures.version

pub returns-clause-rows : goal.returns-clause-rows
returns-clause-rows g c clean is_open version has =
    committed_rows c.version_in.result version (state g.S.Store c.args.conn.now) (state g.S.Store c.read_all.new.conn) c.read_all.result (c.is_autocommit.ensures.settled c.if-not-is_autocommit.false) c.has_meta.ensures.live (c.read_all.ensures.reads.kept clean) is_open
    c.version_in.ensures.version c.read_all.ensures.version (c.read_all.ensures.rows clean c.has_meta.ensures.live) has

pub returns-clause-understood : goal.returns-clause-understood
returns-clause-understood g c clean is_open version has =
    let old = state g.S.Store c.args.conn.now in
    committed_faults (schema_of version) old (state g.S.Store c.read_all.new.conn) c.read_all.result (c.is_autocommit.ensures.settled c.if-not-is_autocommit.false) (c.read_all.ensures.reads.kept clean) is_open
    (λ own. c.read_all.ensures.understood clean (subst (λ v. old.now.schema ≡ schema_of v) (sym (c.version_in.ensures.version version own)) own)) has
