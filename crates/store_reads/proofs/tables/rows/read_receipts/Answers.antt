use Rattle.std.proofs.Common.{◌≡◌, None, true}
use Rattle.sqlite.specs.Held.{state}
use Rattle.store_reads.specs.Reads.{rise_above}
use Rattle.store_reads.proofs.Reading.{receipts_decoded}
use Rattle.store_reads.proofs.tables.rows.read_receipts.Goals as goal

pub returns-clause-rows : goal.returns-clause-rows
returns-clause-rows g c clean live version has =
    let rises : rise_above None c.in_ok-stored.stored.items ≡ true = cc in
    receipts_decoded version (state g.S.Store c.args.conn.now).now.trees c.in_ok-stored.stored.items c.in_ok-decode_receipts.field-0 (c.in_ok-stored.ensures.rows clean live version has) rises (rw c.deref-2.ensures.value at c.in_ok-decode_receipts.ensures)
