use Rattle.std.proofs.Common.{◌≤◌}
use Rattle.plan_outlooks.specs.Spans.{HaveStatus}
use Rattle.status_rules.specs.declared.Status.TheVariants.{Complete}
use Rattle.plan_outlooks.proofs.occurrences.are_complete.Given as goal

-- those that were passed are
abbrev pub invariant-loop-place : goal.invariant-loop-place
invariant-loop-place l = (l.first ≤ l.place) × HaveStatus l.loaded l.first l.place Complete
