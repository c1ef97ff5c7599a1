use Rattle.std.proofs.Common.{◌-◌, ◌≤◌, length, take}
use Rattle.plan_model.specs.Plan.{Plan}
use Rattle.plan_outlooks.specs.Lacks.{LeadTo}
use Rattle.plan_outlooks.specs.Replays.{AreAllBefore}
use Rattle.plan_outlooks.proofs.lacks.make_up_to.Given as goal

abbrev pub invariant-loop-next : goal.invariant-loop-next
invariant-loop-next l = record {
  within : l.next ≤ length l.requests;
  led : (P : Plan) → LeadTo P (take l.made l.requests) l.fn.plan.plan → LeadTo P (take l.next l.requests) l.plan.plan;
  before : AreAllBefore l.at l.requests l.made → AreAllBefore l.at l.requests l.next;
}

abbrev pub decreases-loop-next : goal.decreases-loop-next
decreases-loop-next l = length l.requests - l.next
