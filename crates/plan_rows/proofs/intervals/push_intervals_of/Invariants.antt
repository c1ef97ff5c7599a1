use Rattle.std.specs.Prelude.{◌≡◌, ◌++◌, map, take}
use Rattle.plan_rows.proofs.intervals.push_intervals_of.Given as goal

-- the first of them are added
abbrev pub invariant-loop-interval : goal.invariant-loop-interval
invariant-loop-interval l = l.found.items ≡ l.fn.found.items ++ map (λ x. ((l.name, x.from), x)) (take l.interval-index l.intervals)
