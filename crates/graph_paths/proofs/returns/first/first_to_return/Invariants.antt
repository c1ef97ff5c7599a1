use Rattle.std.proofs.Common.{◌<◌, ◌≤◌, ◌-◌, length, take}
use Rattle.graph_paths.specs.Returns.{NoneReturns}
use Rattle.graph_paths.proofs.returns.first.first_to_return.Given as goal

-- no path of the edges up to the lower end returns, and one of those up to the higher end does
abbrev pub invariant-loop-low : goal.invariant-loop-low
invariant-loop-low l = record {
  low : l.low < l.high;
  high : l.high ≤ length l.edges;
  none : NoneReturns (take l.low l.edges);
  returns : ¬ NoneReturns (take l.high l.edges);
}

abbrev pub decreases-loop-low : goal.decreases-loop-low
decreases-loop-low l = l.high - l.low
