use Rattle.std.proofs.Common.{◌≡◌, ◌++◌, drop, map}
use Rattle.plan_drafts.specs.PlanGraphs.{both_ends, keys_at}
use Rattle.plan_drafts.proofs.graphs.edges_among.Given as goal

-- the edges so far, and the pairs that are left, are all
abbrev pub invariant-loop-pair : goal.invariant-loop-pair
invariant-loop-pair l = map (keys_at l.keys) l.edges.items ++ map both_ends (drop l.pair-index l.pairs) ≡ map both_ends l.pairs
