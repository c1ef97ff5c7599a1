use Rattle.std.proofs.Common.{◌≡◌, sym, ap, subst, ◌∙◌, true≢false, arith, length, Some}
use Rattle.record_faults.proofs.Gathering.{at_read}
use Rattle.text_faults.specs.AddedFaults.{NoneBelow}
use Rattle.text_faults.proofs.ComingIn.{none_more}
use Rattle.text_faults.proofs.additions.occurrences.first_occurrence.Goals as goal

pub returns-then-is_occurrence : goal.returns-then-is_occurrence
returns-then-is_occurrence c =
    let o = c.index-said-place.result in
    let at = at_read c.args.said.now c.loop-place.place o o (omega arith) (sym c.index-said-place.is) in
    let is = c.is_occurrence.ensures.0 c.if-is_occurrence.true in
    ((is.0, is.1, is.2, at ∙ ap Some is.3), c.loop-place.invariant)

pub loop-place-preserved : goal.loop-place-preserved
loop-place-preserved c =
    let o = c.index-said-place.result in
    let at = at_read c.args.said.now c.loop-place.place o o (omega arith) (sym c.index-said-place.is) in
    none_more c.args.said.now c.loop-place.place o at (λ is. true≢false (sym (c.is_occurrence.ensures.1 is) ∙ c.if-is_occurrence.false)) c.loop-place.invariant

pub returns : goal.returns
returns c =
    let all : c.loop-place.place ≡ length c.args.said.now = omega arith in
    subst (NoneBelow c.args.said.now) all c.loop-place.invariant
