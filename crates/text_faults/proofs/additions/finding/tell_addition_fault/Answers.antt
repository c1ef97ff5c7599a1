use Rattle.std.proofs.Common.{refl, sym, subst}
use Rattle.record_faults.specs.Faults.{StayOnce}
use Rattle.record_faults.proofs.Once.{one_more_once}
use Rattle.text_faults.specs.declared.additions.faults.PlacedFault.{PlacedFault}
use Rattle.text_faults.specs.AddedFaults.{IsAdditionFaultAt}
use Rattle.text_faults.proofs.additions.finding.tell_addition_fault.Goals as goal

pub returns-clause-once : goal.returns-clause-once
returns-clause-once c =
    let beside = IsAdditionFaultAt c.args.added c.args.said.now c.args.place in
    let r : PlacedFault = record { place = c.args.place; fault = c.in-Some.fault } in
    subst (StayOnce beside c.args.faults.now.items) (sym c.in_ok-extend_from_slice.ensures.items) (one_more_once beside c.args.faults.now.items r (refl, (c.addition_fault.ensures c.in-Some.fault).0 c.in-Some.is))
