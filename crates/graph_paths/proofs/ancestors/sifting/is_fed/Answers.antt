use Rattle.std.proofs.Common.{arith, get_or}
use Rattle.std.proofs.lemmas.List.Elements.{Contains-get_or}
use Rattle.graph_paths.proofs.ancestors.sifting.is_fed.Goals as goal

pub bounds-flags-pred : goal.bounds-flags-pred
bounds-flags-pred c =
    let xs = c.preds-pred-items.result.now in
    let i = c.loop-pred.pred-index in
    let p = get_or xs i 0 in
    let edge = (c.preds-pred-items.ensures.preds.1 p).0 (Contains-get_or xs i 0 c.loop-pred-test.true) in
    let low = (c.preds-pred-items.ensures.graph.ends p c.args.node edge).0 in
    omega (arith, low, c.requires.flags)
