use Rattle.std.proofs.Common.{◌<◌, arith, length, subst, sym}
use Rattle.std.proofs.lemmas.List.Elements.{Contains-get_or}
use Rattle.extension_faults.specs.Whole.{AreAllBefore, IsPairThere, StaysThere}
use Rattle.extension_faults.proofs.Kept.{all_kept, keep_more, none_kept}
use Rattle.extension_faults.proofs.staying.pairs_staying.Goals as goal

pub loop-place-init : goal.loop-place-init
loop-place-init c =
    let P = c.args.plan.now.plan.contents in
    let pairs = c.pairs_of-pairs.result.now in
    subst (AreAllBefore (StaysThere P) pairs 0) (sym c.new-staying.ensures.items) (none_kept (StaysThere P) pairs)

pub pair_stays-requires : goal.pair_stays-requires
pair_stays-requires c =
    let pairs = c.pairs_of-pairs.result.now in
    let place = c.loop-place.place in
    let pair = c.index-pairs-place.result in
    let within : place < length pairs = omega arith in
    subst (IsPairThere c.args.plan.now.plan.contents) (sym c.index-pairs-place.is) ((c.pairs_of-pairs.ensures.each _).0 (Contains-get_or pairs place pair within))

pub loop-place-preserved : goal.loop-place-preserved
loop-place-preserved c =
    let pairs = c.pairs_of-pairs.result.now in
    let place = c.loop-place.place in
    let within : place < length pairs = omega arith in
    keep_more (StaysThere c.args.plan.now.plan.contents) pairs c.pairs_of-pairs.ensures.once place c.index-pairs-place.result within c.index-pairs-place.is c.pair_stays.result c.loop-place.staying.items _ c.pair_stays.ensures c.in_ok-keep.ensures c.loop-place.invariant

pub returns : goal.returns
returns c =
    let pairs = c.pairs_of-pairs.result.now in
    all_kept (StaysThere c.args.plan.now.plan.contents) pairs c.loop-place.place c.loop-place.staying.items (omega arith) (λ x p. (c.pairs_of-pairs.ensures.each x).1 p.0) c.loop-place.invariant
