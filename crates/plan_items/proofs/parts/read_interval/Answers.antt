use Rattle.plan_items.proofs.PartLaws.{interval_read}
use Rattle.plan_items.proofs.parts.read_interval.Goals as goal

pub returns-in_err-from : goal.returns-in_err-from
returns-in_err-from c = rw c.from_residual.ensures (λ x h. c.in_err-from.ensures x.from h.1)

pub returns-in_err-end : goal.returns-in_err-end
returns-in_err-end c = rw c.from_residual-in_err-end.ensures (λ x h. c.in_err-end.ensures x.end h.2)

pub returns : goal.returns
returns c = interval_read c.args.from.now c.args.end.now c.args.servers.now c.args.r1.now c.args.r2.now c.in_ok-from.from c.in_ok-end.end c.in_ok-servers.servers c.in_ok-r1.r1 c.in_ok-r2.r2
    c.in_ok-from.ensures c.in_ok-end.ensures c.in_ok-servers.ensures c.in_ok-r1.ensures c.in_ok-r2.ensures c.new.result c.new.ensures.some c.new.ensures.value
