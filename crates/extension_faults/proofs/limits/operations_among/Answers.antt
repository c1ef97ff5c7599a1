use Rattle.std.proofs.Common.{◌<◌, arith, length, subst, sym}
use Rattle.extension_faults.specs.Beside.{OperationStays}
use Rattle.extension_faults.specs.Whole.{AreAllBefore}
use Rattle.extension_faults.proofs.Kept.{all_kept, keep_more, none_kept}
use Rattle.extension_faults.proofs.limits.operations_among.Goals as goal

pub loop-place-init : goal.loop-place-init
loop-place-init c =
    let Q = OperationStays c.args.plan.now.plan.contents in
    subst (AreAllBefore Q c.args.keys.now 0) (sym c.new-staying.ensures.items) (none_kept Q c.args.keys.now)

pub loop-place-preserved : goal.loop-place-preserved
loop-place-preserved c =
    let keys = c.args.keys.now in
    let place = c.loop-place.place in
    let within : place < length keys = omega arith in
    keep_more (OperationStays c.args.plan.now.plan.contents) keys c.requires.once place c.index-keys-place.result within c.index-keys-place.is c.operation_stays.result c.loop-place.staying.items _ c.operation_stays.ensures c.in_ok-keep.ensures c.loop-place.invariant

pub returns : goal.returns
returns c = all_kept (OperationStays c.args.plan.now.plan.contents) c.args.keys.now c.loop-place.place c.loop-place.staying.items (omega arith) (λ x p. (c.requires.each x).1 p.0) c.loop-place.invariant
