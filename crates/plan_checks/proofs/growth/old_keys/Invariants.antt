use Rattle.std.proofs.Common.{◌≡◌, ◌++◌, drop}
use Rattle.std.specs.FinMap.{keys}
use Rattle.plan_checks.proofs.growth.old_keys.Given as goal

-- the keys so far, and those that are left, are all
abbrev pub invariant-loop-place : goal.invariant-loop-place
invariant-loop-place l = l.keys.items ++ drop l.place (keys l.uncounted.contents.now.operations) ≡ keys l.uncounted.contents.now.operations
