-- A request that is made of a loaded plan.
use Rattle.std.specs.Prelude.{◌≡◌, pos, Some}
use Rattle.plan_basics.specs.Minutes.{IsMoment}
use Rattle.plan_basics.specs.Refusals.{NoneRefuses}
use Rattle.request_outcomes.specs.AcceptedOutcomes.{IsAcceptedOutcomeOf}
use Rattle.request_outcomes.specs.declared.dated_requests.DatedRequest.{DatedRequest}
use Rattle.request_outcomes.specs.declared.accepted.AcceptedOutcome.{AcceptedOutcome}
use Rattle.plan_records.specs.Acceptance.{MayBeAccepted}
use Rattle.plan_model.specs.Contents.{Contents}
use Rattle.plan_model.specs.Plan.{Plan, plan_held}

-- the plan of which it is made, which holds P
abbrev pub plan_asked : Contents → DatedRequest → Plan
plan_asked P q = plan_held q.clock (Some P)

-- it is made at its moment of the plan, whose clock is one too, and nothing stands in its way
pub record IsAcceptable (P : Contents) (q : DatedRequest) : Type 0 where
  pub clock : IsMoment q.clock
  pub at : q.request.now.at ≡ pos q.at
  pub clear : NoneRefuses (MayBeAccepted (plan_asked P q) q.request.now)

-- it leads there
abbrev pub IsAcceptedOutcomeFor : Contents → DatedRequest → AcceptedOutcome → Type 0
IsAcceptedOutcomeFor P q x = IsAcceptedOutcomeOf (plan_asked P q) q.request.now q.at x
