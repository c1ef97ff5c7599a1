use Rattle.std.proofs.Common.{true, false, drop}
use Rattle.graph_paths.specs.Walking.{IsSift}
use Rattle.graph_paths.proofs.ancestors.sifting.sift.Given as goal

abbrev pub invariant-loop-node : goal.invariant-loop-node
invariant-loop-node g l = IsSift (λ n. goal.F-post g l.keep n true) (λ n. goal.F-post g l.keep n false) l.nodes l.kept.items (drop l.node-index l.nodes)
