use Rattle.std.proofs.Common.{arith}
use Rattle.record_faults.proofs.Gathering.{by_property, more}
use Rattle.record_faults.proofs.Warned.{not_is}
use Rattle.extension_faults.proofs.InOrder.{before_later}
use Rattle.extension_faults.proofs.Told.{dependency_told}
use Rattle.extension_faults.proofs.telling.tell_dependency.Goals as goal

pub returns-clause-told : goal.returns-clause-told
returns-clause-told c = λ said is f.
    by_property (more (more (more (c.in_ok-tell.ensures.told f) (c.in_ok-tell-2.ensures.told f)) (c.in_ok-tell-3.ensures.told f)) (c.in_ok-tell-4.ensures.told f))
    (dependency_told c.args.plan.now.plan.contents said c.args.predecessor.now c.args.successor.now _ _ _ _
    (not_is c.is_found-first.result (c.is_found-first.ensures said is))
    (not_is c.is_found-second.result (c.is_found-second.ensures said is))
    (c.is_deleted_other-deleted.ensures said is)
    (c.is_other_under_way-under_way.ensures said is)
    f.wrong)

pub returns-clause-in_order : goal.returns-clause-in_order
returns-clause-in_order c = λ before.
    let first = c.in_ok-tell.ensures.in_order (before_later _ _ _ before (omega arith)) in
    let second = c.in_ok-tell-2.ensures.in_order (before_later _ _ _ first (omega arith)) in
    let third = c.in_ok-tell-3.ensures.in_order (before_later _ _ _ second (omega arith)) in
    let fourth = c.in_ok-tell-4.ensures.in_order (before_later _ _ _ third (omega arith)) in
    before_later _ _ _ fourth (omega arith)
