use Rattle.std.proofs.Common.{ap, subst, sym, ◌∙◌}
use Rattle.std.specs.List.{AllByRecursion}
use Rattle.sqlite.specs.Effect.{Database}
use Rattle.sqlite.specs.Held.{state}
use Rattle.store_reads.specs.Tables.{AreRead, AreReceiptsRead, IsIn}
use Rattle.store_reads.proofs.Reading.{late, live_same}
use Rattle.store_reads.proofs.TablesIn.{all_in}
use Rattle.store_reads.proofs.tables.rows.read_all.Goals as goal

pub returns-clause-rows : goal.returns-clause-rows
returns-clause-rows g c clean live has =
    let old = state g.S.Store c.args.conn.now in
    let now = state g.S.Store c.read_tables.new.conn in
    let early = late old now (state g.S.Store c.read_receipts.new.conn) c.in_ok-rows.ensures.reads c.in_ok-receipts.ensures.reads clean in
    let same = c.in_ok-rows.ensures.same early in
    let rows = rw c.in-Some.is at (c.in_ok-rows.ensures.rows early live c.args.version (subst (AllByRecursion (IsIn c.args.version)) (sym c.tables_of.ensures) (all_in c.args.version)) has) in
    let receipts = rw c.in-Some-2.is at (c.in_ok-receipts.ensures.rows clean (live_same old now same live) c.args.version (ap (λ (db : Database). db.schema) same.now_is ∙ has)) in
    (subst (λ ts. AreRead ts old.now.trees c.in-Some.rows.items) c.tables_of.ensures rows, subst (λ (db : Database). AreReceiptsRead db.trees c.in-Some-2.receipts.items) same.now_is receipts)
