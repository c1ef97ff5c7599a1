use Rattle.std.proofs.Common.{subst, arith}
use Rattle.std.proofs.lemmas.List.{take_all}
use Rattle.store_reads.specs.Rows.{AppendsRows}
use Rattle.store_reads.proofs.Appended.{appends_none, appends_more}
use Rattle.store_reads.proofs.decoding.decoding.decode_all.Goals as goal

pub loop-row-init : goal.loop-row-init
loop-row-init c = appends_none c.args.table c.args.rows.now c.args.into.now.items

pub loop-row-preserved : goal.loop-row-preserved
loop-row-preserved c =
    let next = rw c.if-not-branch.false at (c.in_ok-decode_next.ensures) in
    appends_more c.args.table c.args.rows.now c.loop-row.row-index c.row-item.result c.args.into.now.items c.loop-row.into.items c.decode_next.new.into.items c.loop-row-test.true c.row-item.is c.loop-row.invariant next

pub returns : goal.returns
returns c = subst (λ l. AppendsRows c.args.table l c.args.into.now.items c.loop-row.into.items) (take_all c.loop-row.row-index c.args.rows.now (omega arith)) c.loop-row.invariant
