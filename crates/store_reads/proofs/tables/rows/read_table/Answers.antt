use Rattle.std.proofs.Common.{◌≡◌, None, true}
use Rattle.sqlite.specs.Held.{state}
use Rattle.store_reads.specs.Reads.{rise_above}
use Rattle.store_reads.proofs.Reading.{table_added}
use Rattle.store_reads.proofs.tables.rows.read_table.Goals as goal

pub returns-clause-rows : goal.returns-clause-rows
returns-clause-rows g c clean live version is_in has =
    let rises : rise_above None c.in_ok-rows.rows.items ≡ true = cc in
    table_added version c.args.table is_in (state g.S.Store c.args.conn.now).now.trees c.in_ok-rows.rows.items c.args.into.now.items c.decode_all.new.into.items c.in_ok-decode_all.field-0
    (c.in_ok-rows.ensures.rows clean live version is_in has) rises (rw c.deref-2.ensures.value at c.in_ok-decode_all.ensures)
