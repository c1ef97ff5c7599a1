-- What is promised of all that becomes started.
use Rattle.std.specs.Prelude.{◌≡◌, List, [], ◌∷◌}
use Rattle.plan_basics.specs.declared.keys.OpKey.{OpKey}
use Rattle.plan_model.specs.Plan.{Plan, IsSoundPlan}
use Rattle.plan_records.specs.Answer.{Answer}
use Rattle.plan_records.specs.Laws.{BecomesStarted, WasProvidedFor}
use Rattle.plan_records.specs.declared.Request.{Request}
use Rattle.plan_core.specs.Requested.{IsAnswered}

-- for whatever becomes started between these two plans there was all that it needs, at the moment of the request
abbrev pub StartsAreProvided : Plan → Request → Answer → Plan → Type 0
StartsAreProvided P q reply after = (o : OpKey) → BecomesStarted P after o → WasProvidedFor P q reply o

-- the requests lead from plan to plan, to the last one: each is answered so and leaves a sound plan, and for whatever becomes started by it there was all that it needs then
abbrev pub RunStartsAreProvided : Plan → List Request → List Answer → Plan → Type 0
RunStartsAreProvided P [] [] after = after ≡ P
RunStartsAreProvided P (q ∷ requests) (reply ∷ answers) after =
    (mid : Plan) × IsAnswered P q reply mid × IsSoundPlan mid × StartsAreProvided P q reply mid × RunStartsAreProvided mid requests answers after
RunStartsAreProvided P [] (reply ∷ answers) after = ⊥
RunStartsAreProvided P (q ∷ requests) [] after = ⊥
