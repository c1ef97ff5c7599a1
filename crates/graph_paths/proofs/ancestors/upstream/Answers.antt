use Rattle.std.proofs.Common.{arith}
use Rattle.graph_paths.proofs.Backwards.{upstream_found}
use Rattle.graph_paths.proofs.ancestors.upstream.Goals as goal

pub returns-clause-reached : goal.returns-clause-reached
returns-clause-reached c =
    upstream_found c.args.graph.now c.begun.ensures.graph c.args.flags.now c.args.from c.loop-place.walk.seen.items c.loop-place.walk.found.items c.loop-place.place c.loop-place.invariant
    (omega (arith, c.loop-place-test.false, c.len.ensures, c.loop-place.walk.found.ok.0))
