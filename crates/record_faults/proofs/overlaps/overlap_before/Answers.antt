use Rattle.std.proofs.Common.{◌<◌, sym, subst, ◌∙◌, true≢false, arith, get_or, None}
use Rattle.record_faults.specs.Faults.{DoOverlap}
use Rattle.record_faults.proofs.Overlapping.{IsLeft, places_to, left_first, left_next, fewer, last_overlap, none_before, read_by}
use Rattle.record_faults.proofs.overlaps.overlap_before.Goals as goal

pub loop-next-init : goal.loop-next-init
loop-next-init c = left_first c.args.said.now c.args.place c.args.interval.now c.requires.interval c.args.earlier.now c.requires.earlier

pub returns-then-overlap_of : goal.returns-then-overlap_of
returns-then-overlap_of c =
    let left = subst (IsLeft c.args.said.now c.args.place c.args.interval.now.0) c.in-Some.is c.loop-next.invariant in
    let read = read_by c.args.said.now c.in-Some.other c.index-said-other.result None (let lt = left.0 in let within = c.requires.place in omega (arith, lt, within)) c.index-said-other.is in
    let overlap = subst (λ a. DoOverlap a (get_or c.args.said.now c.args.place None)) read ((c.overlap_of.ensures (get_or c.args.said.now c.args.place None) c.requires.interval).0 c.if-overlap_of.true) in
    last_overlap c.args.said.now c.args.place c.in-Some.other left.0 overlap left.2

pub loop-next-smaller : goal.loop-next-smaller
loop-next-smaller c =
    let left = subst (IsLeft c.args.said.now c.args.place c.args.interval.now.0) c.in-Some.is c.loop-next.invariant in
    subst (λ o. places_to (get_or c.args.earlier.now c.in-Some.other None) < places_to o) (sym c.in-Some.is) (fewer c.args.said.now c.args.place c.args.interval.now c.requires.interval c.args.earlier.now c.in-Some.other c.requires.earlier left)

pub loop-next-preserved : goal.loop-next-preserved
loop-next-preserved c =
    let left = subst (IsLeft c.args.said.now c.args.place c.args.interval.now.0) c.in-Some.is c.loop-next.invariant in
    let read = read_by c.args.said.now c.in-Some.other c.index-said-other.result None (let lt = left.0 in let within = c.requires.place in omega (arith, lt, within)) c.index-said-other.is in
    left_next c.args.said.now c.args.place c.args.interval.now c.requires.interval c.args.earlier.now c.in-Some.other c.requires.earlier left
    (λ h. true≢false (sym ((c.overlap_of.ensures (get_or c.args.said.now c.args.place None) c.requires.interval).1 (subst (λ a. DoOverlap a (get_or c.args.said.now c.args.place None)) (sym read) h)) ∙ c.if-overlap_of.false))

pub returns : goal.returns
returns c = none_before c.args.said.now c.args.place (subst (IsLeft c.args.said.now c.args.place c.args.interval.now.0) c.in_default.is c.loop-next.invariant)
