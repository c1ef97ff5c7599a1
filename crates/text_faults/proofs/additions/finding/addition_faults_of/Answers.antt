use Rattle.std.proofs.Common.{◌≡◌, subst, arith, length}
use Rattle.text_faults.specs.AddedFaults.{AreToldBelow, IsAdditionFaultAt}
use Rattle.text_faults.proofs.Telling.{told_more}
use Rattle.text_faults.proofs.Once.{not_beside_before}
use Rattle.text_faults.proofs.additions.finding.addition_faults_of.Goals as goal

pub loop-place-preserved : goal.loop-place-preserved
loop-place-preserved c = (
  told_more (IsAdditionFaultAt c.args.added c.args.said.now) c.loop-place.place c.loop-place.faults.items c.tell_addition_fault.new.faults.items c.loop-place.invariant.0 c.in_ok-tell_addition_fault.ensures.told,
  c.in_ok-tell_addition_fault.ensures.once (not_beside_before c.args.added c.args.said.now c.loop-place.place c.loop-place.faults.items c.loop-place.invariant.0) c.loop-place.invariant.1,
)

pub returns-clause-told : goal.returns-clause-told
returns-clause-told c =
    let all : c.loop-place.place ≡ length c.args.said.now = omega arith in
    subst (λ n. AreToldBelow (IsAdditionFaultAt c.args.added c.args.said.now) n c.loop-place.faults.items) all c.loop-place.invariant.0
