use Rattle.std.proofs.Common.{◌≡◌, sym, subst, arith, length}
use Rattle.extension_faults.specs.Warned.{AreNeverBelow}
use Rattle.extension_faults.proofs.NeverTold.{by_test, never_first, never_next}
use Rattle.extension_faults.proofs.warning.never_said.Goals as goal

pub loop-place-init : goal.loop-place-init
loop-place-init c = subst (AreNeverBelow c.args.plan.now.plan c.args.said.now 0) (sym c.new-places.ensures.items) (never_first c.args.plan.now.plan c.args.said.now)

pub loop-place-preserved : goal.loop-place-preserved
loop-place-preserved c =
    never_next c.args.plan.now.plan c.args.said.now c.loop-place.place c.loop-place.places.items c.note_place.new.places.items c.loop-place.invariant
    (λ p. by_test c.never_starts_at.ensures (c.in_ok-note_place.ensures p))

pub returns : goal.returns
returns c =
    let all : c.loop-place.place ≡ length c.args.said.now = omega arith in
    subst (λ n. AreNeverBelow c.args.plan.now.plan c.args.said.now n c.loop-place.places.items) all c.loop-place.invariant
