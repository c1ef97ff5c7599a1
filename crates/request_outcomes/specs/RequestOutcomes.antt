-- What a request leads to in a loaded plan.
use Rattle.std.specs.Prelude.{ℕ}
use Rattle.request_outcomes.specs.Rebuilds.{AreRebuildLooks, IsRebuildOf}
use Rattle.request_outcomes.specs.DatedRequests.{plan_asked}
use Rattle.request_outcomes.specs.AcceptedOutcomes.{AreLooksTo, IsAcceptedOutcomeOf}
use Rattle.request_outcomes.specs.declared.dated_requests.DatedRequest.{DatedRequest}
use Rattle.request_outcomes.specs.declared.request_outcome.RequestOutcome.{RequestOutcome}
use Rattle.request_outcomes.specs.declared.request_outcome.RequestOutcome.TheVariants.{Small, Whole}
use Rattle.plan_records.specs.declared.Request.{Request}
use Rattle.plan_records.specs.declared.What.{What}
use Rattle.plan_model.specs.Contents.{Contents}
use Rattle.plan_model.specs.Plan.{Plan}

-- this request leads there from this plan at minute m
abbrev pub IsRequestOutcomeOf : Plan → Request → ℕ → RequestOutcome → Type 0
IsRequestOutcomeOf P request m (Small x) = IsAcceptedOutcomeOf P request m x
IsRequestOutcomeOf P request m (Whole a) = IsRebuildOf P request m a

-- it leads there
abbrev pub IsRequestOutcomeFor : Contents → DatedRequest → RequestOutcome → Type 0
IsRequestOutcomeFor P q l = IsRequestOutcomeOf (plan_asked P q) q.request.now q.at l

-- so many looks at the plan that holds P may be taken for it
abbrev pub AreRequestOutcomeLooks : Contents → What → RequestOutcome → ℕ → Type 0
AreRequestOutcomeLooks P w (Small x) looks = AreLooksTo P w x looks
AreRequestOutcomeLooks P w (Whole a) looks = AreRebuildLooks P w a looks
