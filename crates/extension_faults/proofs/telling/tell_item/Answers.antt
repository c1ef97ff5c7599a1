use Rattle.std.proofs.Common.{arith}
use Rattle.record_faults.proofs.Gathering.{by_property}
use Rattle.record_faults.proofs.Warned.{not_is}
use Rattle.extension_faults.proofs.InOrder.{before_later}
use Rattle.extension_faults.proofs.Told.{occurrence_told, operation_told}
use Rattle.extension_faults.proofs.telling.tell_item.Goals as goal

pub returns-in_ok-tell-in-Occurrence-clause-told : goal.returns-in_ok-tell-in-Occurrence-clause-told
returns-in_ok-tell-in-Occurrence-clause-told c = λ said is f.
    let P = c.args.plan.now.plan.contents in
    rw c.in-Occurrence.is (by_property (c.in_ok-tell-in-Occurrence.ensures.told f) (occurrence_told P c.in-Occurrence.key c.stays.result c.stays.ensures f.wrong))

pub returns-in_ok-tell-in-Occurrence-clause-in_order : goal.returns-in_ok-tell-in-Occurrence-clause-in_order
returns-in_ok-tell-in-Occurrence-clause-in_order c = λ before.
    let next = c.in_ok-tell-in-Occurrence.ensures.in_order (before_later _ _ _ before (omega arith)) in
    before_later _ _ _ next (omega arith)

pub returns-in_ok-tell-in-Operation-clause-told : goal.returns-in_ok-tell-in-Operation-clause-told
returns-in_ok-tell-in-Operation-clause-told c = λ said is f.
    let P = c.args.plan.now.plan.contents in
    rw c.in-Operation.is (by_property (c.in_ok-tell-in-Operation.ensures.told f) (operation_told P c.in-Operation.operation _ (not_is c.has_workstation-known.result c.has_workstation-known.ensures) f.wrong))

pub returns-in_ok-tell-in-Operation-clause-in_order : goal.returns-in_ok-tell-in-Operation-clause-in_order
returns-in_ok-tell-in-Operation-clause-in_order c = λ before.
    let next = c.in_ok-tell-in-Operation.ensures.in_order (before_later _ _ _ before (omega arith)) in
    before_later _ _ _ next (omega arith)

pub returns-in_ok-tell_need-in-Need-clause-told : goal.returns-in_ok-tell_need-in-Need-clause-told
returns-in_ok-tell_need-in-Need-clause-told c = λ said is f. rw c.in-Need.is (c.in_ok-tell_need-in-Need.ensures.told f)

pub returns-in_ok-tell_dependency-in-Dependency-clause-told : goal.returns-in_ok-tell_dependency-in-Dependency-clause-told
returns-in_ok-tell_dependency-in-Dependency-clause-told c = λ said is f. rw c.in-Dependency.is (c.in_ok-tell_dependency-in-Dependency.ensures.told said is f)
