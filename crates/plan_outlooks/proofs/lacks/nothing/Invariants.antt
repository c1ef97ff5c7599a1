use Rattle.std.proofs.Common.{◌≡◌, length}
use Rattle.plan_outlooks.proofs.lacks.nothing.Given as goal

abbrev pub invariant-loop : goal.invariant-loop
invariant-loop l = length l.lacks.items ≡ l.counter
