use Rattle.std.proofs.Common.{◌≡◌, ◌≤◌, ℕ, length, slice_get, take, Some}
use Rattle.plan_outlooks.specs.Lacks.{LeadTo}
use Rattle.plan_outlooks.specs.Replays.{AreAllBefore}
use Rattle.plan_outlooks.specs.declared.lacks.Turn.{Turn}
use Rattle.plan_outlooks.proofs.Replaying.{AreLacksUpTo}
use Rattle.plan_outlooks.proofs.lacks.lacks_of.Given as goal

abbrev pub invariant-loop-turn : goal.invariant-loop-turn
invariant-loop-turn l = record {
  within : l.made ≤ length l.requests;
  led : LeadTo l.fn.plan.plan (take l.made l.requests) l.again.plan;
  before : (k : ℕ) (t : Turn) → l.turn-index ≤ k → slice_get l.turns k ≡ Some t → AreAllBefore t.at l.requests l.made;
  so : AreLacksUpTo l.fn.plan.plan l.requests l.turns l.fn.count l.turn-index l.lacks.items;
}
