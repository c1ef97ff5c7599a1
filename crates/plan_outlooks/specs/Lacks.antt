-- What an operation lacked as the minute began at which it begins.
use Rattle.std.specs.Prelude.{◌≡◌, ℕ, ◌<◌, pos, cond, int_lt, true, List, [], ◌∷◌, Option, Some, slice_get}
use Rattle.std.specs.FinMap.{entries, get}
use Rattle.plan_basics.specs.declared.keys.OpKey.{OpKey}
use Rattle.plan_model.specs.Contents.{Contents, Has, Operation, attribute_at}
use Rattle.plan_model.specs.Holdings.{takes}
use Rattle.plan_model.specs.Plan.{Plan}
use Rattle.plan_model.specs.special_resources.specs.Holders.{Usage}
use Rattle.plan_reasons.specs.Reasons.{amount_needed}
use Rattle.plan_reasons.specs.Whys.{IsFirstReason}
use Rattle.plan_reasons.specs.declared.reasons.Reason.{Reason}
use Rattle.plan_reasons.specs.declared.reasons.Reason.TheVariants as reason
use Rattle.plan_records.specs.Answer.{accepted}
use Rattle.plan_records.specs.Step.{Step}
use Rattle.plan_records.specs.declared.Request.{Request}
use Rattle.plan_outlooks.specs.Forecasts.{Forecast, begin_minute}

-- these requests, all accepted, lead from one plan to another
abbrev pub LeadTo : Plan → List Request → Plan → Type 0
LeadTo P [] Q = Q ≡ P
LeadTo P (q ∷ qs) Q = (mid : Plan) × (chosen : List OpKey) × Step P q (accepted chosen) mid × LeadTo mid qs Q

-- those of these requests that come before this minute: all up to the first that doesn't
abbrev pub before_minute : ℕ → List Request → List Request
before_minute m [] = []
before_minute m (q ∷ qs) = cond (int_lt q.at (pos m)) (q ∷ before_minute m qs) []

-- Q is the plan as the minute m begins
abbrev pub IsPlanAt : Plan → List Request → ℕ → Plan → Type 0
IsPlanAt P requests m Q = LeadTo P (before_minute m requests) Q

-- the first reason why o doesn't go on as the minute m begins, as `why` has it
abbrev pub IsLack : Plan → List Request → OpKey → ℕ → Option Reason → Type 0
IsLack P requests o m found = (Q : Plan) × IsPlanAt P requests m Q × IsFirstReason Q.contents o m found

-- q has some of what lacks by a reason: a server, R1 or R2 of that workstation, or a special resource
abbrev pub HasOf : Contents → OpKey → Option Reason → Type 0
HasOf P q (Some (reason.Lacks x)) = Has P q (λ op. (takes (attribute_at P op.workstation) ≡ true) × (op.workstation ≡ x.workstation) × (0 < amount_needed x.supply op))
HasOf P q (Some (reason.HeldBy x)) = x.holder ≡ q
HasOf P q (Some (reason.TooLittleLeft x)) = Has P q (λ op. (takes (attribute_at P op.workstation) ≡ true) × ((u : Usage) × (get op.needs x.resource ≡ Some u)))
HasOf P q found = ⊥

-- at the index of each row stands what its operation lacks first as the minute begins at which it begins in the forecast
abbrev pub AreLacks : Forecast → List (Option Reason) → Type 0
AreLacks F lacks = (i : ℕ) (o : OpKey) (op : Operation) → slice_get (entries F.plan.contents.operations) i ≡ Some (o, op) → (found : Option Reason) × (slice_get lacks i ≡ Some found) × IsLack F.plan F.requests o (begin_minute F o) found
