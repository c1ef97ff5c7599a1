use Rattle.std.proofs.Common.{◌+◌, refl, sym, subst, arith}
use Rattle.extension_faults.specs.Beside.{AreBefore, turn_of}
use Rattle.extension_faults.specs.declared.kinds.FaultBeside.{FaultBeside}
use Rattle.extension_faults.proofs.InOrder.{before_later, before_next}
use Rattle.extension_faults.proofs.telling.tell.Goals as goal

pub returns-then-not-is-clause-in_order : goal.returns-then-not-is-clause-in_order
returns-then-not-is-clause-in_order c = λ before. before_later _ _ _ before (omega arith)

pub returns-clause-in_order : goal.returns-clause-in_order
returns-clause-in_order c = λ before.
    let turn = turn_of c.args.place c.args.wrong in
    let r : FaultBeside = record { place = c.args.place; wrong = c.args.wrong } in
    subst (AreBefore (turn + 1)) (sym c.in_ok-extend_from_slice.ensures.items) (before_next turn c.args.faults.now.items r refl before)
