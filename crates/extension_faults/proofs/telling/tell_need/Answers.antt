use Rattle.std.proofs.Common.{arith}
use Rattle.record_faults.proofs.Gathering.{by_property, more}
use Rattle.record_faults.proofs.Warned.{not_is}
use Rattle.extension_faults.proofs.InOrder.{before_later}
use Rattle.extension_faults.proofs.Told.{need_told}
use Rattle.extension_faults.proofs.telling.tell_need.Goals as goal

pub returns-clause-told : goal.returns-clause-told
returns-clause-told c = λ f.
    by_property (more (c.in_ok-tell.ensures.told f) (c.in_ok-tell-2.ensures.told f))
    (need_told c.args.plan.now.plan.contents c.args.need.now _ _ (not_is c.has_resource-known.result c.has_resource-known.ensures) c.is_beyond_quantity-beyond.ensures f.wrong)

pub returns-clause-in_order : goal.returns-clause-in_order
returns-clause-in_order c = λ before.
    let first = c.in_ok-tell.ensures.in_order (before_later _ _ _ before (omega arith)) in
    let second = c.in_ok-tell-2.ensures.in_order (before_later _ _ _ first (omega arith)) in
    before_later _ _ _ second (omega arith)
