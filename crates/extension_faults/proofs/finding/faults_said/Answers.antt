use Rattle.std.proofs.Common.{◌≡◌, ◌*◌, sym, subst, arith, length}
use Rattle.extension_faults.specs.Beside.{AreBefore, AreFaultsBelow}
use Rattle.extension_faults.proofs.InOrder.{before_later, none_before}
use Rattle.extension_faults.proofs.Told.{more_below, none_below}
use Rattle.extension_faults.proofs.finding.faults_said.Goals as goal

pub loop-place-init : goal.loop-place-init
loop-place-init c =
    let P = c.args.plan.now.plan.contents in (
      subst (AreFaultsBelow P c.args.said.now 0) (sym c.new-faults.ensures.items) (none_below P c.args.said.now),
      subst (AreBefore (8 * 0)) (sym c.new-faults.ensures.items) (none_before (8 * 0)),
    )

pub loop-place-preserved : goal.loop-place-preserved
loop-place-preserved c = (
  more_below c.args.plan.now.plan.contents c.args.said.now c.loop-place.place c.loop-place.faults.items c.tell_place.new.faults.items c.loop-place.invariant.0 c.in_ok-tell_place.ensures.told,
  before_later _ _ _ (c.in_ok-tell_place.ensures.in_order c.loop-place.invariant.1) (omega arith),
)

pub returns-clause-told : goal.returns-clause-told
returns-clause-told c =
    let all : c.loop-place.place ≡ length c.args.said.now = omega arith in
    subst (λ n. AreFaultsBelow c.args.plan.now.plan.contents c.args.said.now n c.loop-place.faults.items) all c.loop-place.invariant.0

pub returns-clause-in_order : goal.returns-clause-in_order
returns-clause-in_order c =
    let all : c.loop-place.place ≡ length c.args.said.now = omega arith in
    subst (λ n. AreBefore (8 * n) c.loop-place.faults.items) all c.loop-place.invariant.1
