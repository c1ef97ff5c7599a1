use Rattle.std.proofs.Common.{◌≡◌, ◌++◌, drop, map}
use Rattle.plan_checks.specs.Reach.{is_live_status}
use Rattle.plan_checks.proofs.reach.live_of.Given as goal

-- the flags so far, and those of the statuses that are left, are all
abbrev pub invariant-loop-status : goal.invariant-loop-status
invariant-loop-status l = l.live.items ++ map is_live_status (drop l.status-index l.statuses) ≡ map is_live_status l.statuses
