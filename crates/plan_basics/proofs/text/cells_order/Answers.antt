use Rattle.std.proofs.Common.{arith}
use Rattle.plan_basics.proofs.CellOrders.{are_bytes, word_decides, word_passes}
use Rattle.plan_basics.proofs.text.cells_order.Goals as goal

pub returns-then-is_ne : goal.returns-then-is_ne
returns-then-is_ne c =
    let h = c.loop-i.invariant in
    word_decides c.args.a.now c.args.b.now c.loop-i.i c.word_at.result c.word_at-in-loop-i.result c.cmp-order.result (omega (arith, h.0, c.loop-i-test.true)) c.requires (are_bytes c.args.a.now c.type_inv.a) (are_bytes c.args.b.now c.type_inv.b) h.1
    c.word_at.ensures c.word_at-in-loop-i.ensures c.cmp-order.ensures c.if-is_ne.ensures

pub loop-i-preserved : goal.loop-i-preserved
loop-i-preserved c =
    let h = c.loop-i.invariant in (
      omega (arith, h.0, c.loop-i-test.true),
      word_passes c.args.a.now c.args.b.now c.loop-i.i c.word_at.result c.word_at-in-loop-i.result c.cmp-order.result (omega (arith, h.0, c.loop-i-test.true)) c.requires (are_bytes c.args.a.now c.type_inv.a) (are_bytes c.args.b.now c.type_inv.b) h.1
          c.word_at.ensures c.word_at-in-loop-i.ensures c.cmp-order.ensures c.if-is_ne.ensures,
    )
