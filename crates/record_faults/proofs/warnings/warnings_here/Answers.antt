use Rattle.std.proofs.Common.{◌≡◌, subst, arith, length}
use Rattle.record_faults.specs.Warnings.{AreWarningsBelow}
use Rattle.record_faults.proofs.Warned.{more_places}
use Rattle.record_faults.proofs.warnings.warnings_here.Goals as goal

pub loop-place-preserved : goal.loop-place-preserved
loop-place-preserved c = more_places c.args.openings.now.said.items c.loop-place.place _ _ c.loop-place.invariant c.in_ok-warn_of_place.ensures

pub returns : goal.returns
returns c =
    let said = c.args.openings.now.said.items in
    let end = c.len-place-end.ensures in
    let all : c.loop-place.place ≡ length said = omega (arith, end) in
    subst (λ n. AreWarningsBelow said n c.loop-place.found.items) all c.loop-place.invariant
