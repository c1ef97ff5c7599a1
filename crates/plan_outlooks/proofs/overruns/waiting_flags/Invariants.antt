use Rattle.std.proofs.Common.{◌≡◌, ◌++◌, drop}
use Rattle.plan_reasons.specs.Places.{unsatisfied_flags}
use Rattle.plan_outlooks.proofs.overruns.waiting_flags.Given as goal

-- the flags so far, and those of the statuses that are left, are all
abbrev pub invariant-loop-status : goal.invariant-loop-status
invariant-loop-status l = l.flags.items ++ unsatisfied_flags (drop l.status-index l.statuses) ≡ unsatisfied_flags l.statuses
