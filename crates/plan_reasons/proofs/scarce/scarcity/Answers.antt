use Rattle.std.proofs.Common.{sym, arith}
use Rattle.plan_reasons.proofs.TooLittle.{none_there, not_short, short_by}
use Rattle.plan_reasons.proofs.scarce.scarcity.Goals as goal

pub returns-in_err-stock : goal.returns-in_err-stock
returns-in_err-stock c = rw c.from_residual.ensures (none_there c.args.contents.now.resources c.args.holdings.now.held c.args.key.now c.args.need.now (sym c.in_err-stock.ensures))

pub returns-then-need-left : goal.returns-then-need-left
returns-then-need-left c =
    not_short c.args.contents.now.resources c.args.holdings.now.held c.args.key.now c.args.need.now c.in_ok-stock.stock (sym c.in_ok-stock.ensures) c.holders.result.now c.holders.ensures.in_order c.holders.ensures.members c.left_by-left.result c.left_by-left.ensures c.if-need-left.true

pub returns : goal.returns
returns c =
    short_by c.args.contents.now.resources c.args.holdings.now.held c.args.key.now c.args.need.now c.in_ok-stock.stock (sym c.in_ok-stock.ensures) c.holders.result.now c.holders.ensures.in_order c.holders.ensures.members c.left_by-left.result c.left_by-left.ensures (omega (arith, c.if-need-left.false))
