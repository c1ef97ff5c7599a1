use Rattle.std.proofs.Common.{◌≡◌, arith, length, subst}
use Rattle.record_faults.specs.Groups.{IsLastIfAny, grouped}
use Rattle.extension_faults.proofs.Excess.{last_more}
use Rattle.extension_faults.proofs.limits.last_of.Goals as goal

pub loop-place-init : goal.loop-place-init
loop-place-init c = λ i lt. absurd (omega (arith, lt))

pub loop-place-preserved : goal.loop-place-preserved
loop-place-preserved c =
    last_more c.args.group.now c.args.said.now c.loop-place.place c.index-said-place.result c.is_of.result c.loop-place.last c.later-last.result (omega arith) c.index-said-place.is c.is_of.ensures c.later-last.ensures c.loop-place.invariant

pub returns : goal.returns
returns c =
    let all : c.loop-place.place ≡ length c.args.said.now = omega arith in
    subst (λ n. IsLastIfAny (grouped c.args.said.now) n c.args.group.now c.loop-place.last) all c.loop-place.invariant
