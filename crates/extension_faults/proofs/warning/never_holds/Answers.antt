use Rattle.std.proofs.Common.{◌↔◌, sym, subst, IsTrue}
use Rattle.extension_faults.specs.Warned.{NeverHolds}
use Rattle.extension_faults.proofs.Lasting.{never_held, never_known}
use Rattle.extension_faults.proofs.Looking.{false_is}
use Rattle.extension_faults.proofs.warning.never_holds.Goals as goal

pub returns-then-starts_are_known : goal.returns-then-starts_are_known
returns-then-starts_are_known c =
    never_held c.args.workstation.now.1 c.intervals.result.now c.intervals.ensures.intervals c.intervals.ensures.in_order c.args.operation.now c.args.clock c.starts_are_known.result c.some_holds.result
    (rw c.attribute.ensures.value at c.starts_are_known.ensures) c.some_holds.ensures c.if-starts_are_known.true

pub returns-else-starts_are_known : goal.returns-else-starts_are_known
returns-else-starts_are_known c =
    subst (λ b. IsTrue b ↔ NeverHolds c.args.workstation.now.1 c.args.operation.now c.args.clock) (sym c.if-starts_are_known.false)
    (false_is (never_known c.args.workstation.now.1 c.args.operation.now c.args.clock c.starts_are_known.result (rw c.attribute.ensures.value at c.starts_are_known.ensures) c.if-starts_are_known.false))
