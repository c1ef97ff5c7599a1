use Rattle.std.proofs.Common.{arith}
use Rattle.operation_graph.specs.Adjacency.{rows_of}
use Rattle.operation_graph.proofs.Reaching.{found_exactly}
use Rattle.operation_graph.proofs.walk.reached.Goals as goal

pub returns : goal.returns
returns c = found_exactly (rows_of c.args.succs.now) c.args.live.now c.args.from c.loop-place.walk.seen.items c.loop-place.walk.found.items c.loop-place.place c.loop-place.invariant
    (omega (arith, c.loop-place-test.false, c.len.ensures, c.loop-place.walk.found.ok.0))
