use Rattle.std.proofs.Common.{arith, sym, subst, ◌+◌, ◌<◌, length, take}
use Rattle.std.specs.List.{AllZip}
use Rattle.record_faults.proofs.Circling.{zip_last}
use Rattle.extension_faults.specs.Whole.{AreNumbered, IsEdgeFor}
use Rattle.extension_faults.proofs.returns.edges_of.Goals as goal

pub loop-place-preserved : goal.loop-place-preserved
loop-place-preserved c =
    let R = IsEdgeFor c.args.numbers.now in
    let pairs = c.args.pairs.now in
    let place = c.loop-place.place in
    let within : place < length pairs = omega arith in
    subst (AllZip R (take (place + 1) pairs)) (sym c.in_ok-extend_from_slice.ensures.items)
    (zip_last R pairs c.loop-place.edges.items place c.index-pairs-place.result c.edge_of.result within c.index-pairs-place.is c.loop-place.invariant c.edge_of.ensures)

pub edge_of-requires : goal.edge_of-requires
edge_of-requires c =
    let pairs = c.args.pairs.now in
    let place = c.loop-place.place in
    let pair = c.index-pairs-place.result in
    let within : place < length pairs = omega arith in
    subst (AreNumbered c.args.numbers.now) (sym c.index-pairs-place.is) (c.requires place pair within)
