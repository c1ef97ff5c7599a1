use Rattle.std.proofs.Common.{refl, sym, subst}
use Rattle.record_faults.specs.Faults.{StayOnce}
use Rattle.record_faults.proofs.Once.{one_more_once}
use Rattle.text_faults.specs.declared.additions.faults.AddedFault.TheVariants as of_added
use Rattle.text_faults.specs.declared.additions.faults.PlacedFault.{PlacedFault}
use Rattle.text_faults.specs.AddedFaults.{IsToldOf}
use Rattle.text_faults.proofs.additions.finding.tell_judged.Goals as goal

pub returns-clause-once : goal.returns-clause-once
returns-clause-once c =
    let told = IsToldOf c.args.added c.args.said.now c.args.found.now in
    let r : PlacedFault = record { place = c.args.found.now.place; fault = of_added.OfRecord c.args.found.now.fault } in
    subst (StayOnce told c.args.faults.now.items) (sym c.in_ok-extend_from_slice.ensures.items) (one_more_once told c.args.faults.now.items r (refl, refl, c.if-not-is_judged.ensures.0 refl))
