-- The very same request, made again at once, at the same moment.
use Rattle.std.specs.Prelude.{◌≡◌, List, []}
use Rattle.plan_basics.specs.declared.keys.OpKey.{OpKey}
use Rattle.plan_model.specs.Plan.{Plan, IsSoundPlan}
use Rattle.plan_records.specs.Answer.{Answer, accepted}
use Rattle.plan_records.specs.Run.{Call, CallStep, State}
use Rattle.plan_records.specs.Step.{Step}
use Rattle.plan_records.specs.declared.Request.{Request}

-- a request that is made again at once changes nothing, whatever it is answered the first time and the second
abbrev pub RepeatsChangeNothing : Type 0
RepeatsChangeNothing = (P after again : Plan) (q : Request) (first second : Answer) → IsSoundPlan P → Step P q first after → Step after q second again → again ≡ after

-- and it names nothing
abbrev pub RepeatsNameNothing : Type 0
RepeatsNameNothing = (P after again : Plan) (q : Request) (first : Answer) (named : List OpKey) → IsSoundPlan P → Step P q first after → Step after q (accepted named) again → named ≡ []

-- so it is with a call, numbered or not: it changes neither the plan nor the receipts
abbrev pub RepeatedCallsChangeNothing : Type 0
RepeatedCallsChangeNothing = (s t u : State) (c : Call) (first second : Answer) → IsSoundPlan s.plan → CallStep s c first t → CallStep t c second u → u ≡ t
