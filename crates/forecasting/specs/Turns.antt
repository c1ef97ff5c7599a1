-- The moments that a forecast has to look at.
use Rattle.std.specs.Prelude.{◌≡◌, ◌⊎◌, ℕ, ◌+◌, ◌<◌, ◌≤◌, List, Contains, MatchOption, Option, Some, slice_get}
use Rattle.std.specs.List.Sorted.{IsNonDecreasingBy}
use Rattle.plan_basics.specs.declared.keys.OpKey.{OpKey}
use Rattle.plan_model.specs.Contents.{Operation}
use Rattle.plan_model.specs.Plan.{Plan}
use Rattle.plan_forecast.specs.Ahead.{Ahead, IsIdleUntil, IsWork}
use Rattle.plan_forecast.specs.Laws.{IsTurn}
use Rattle.plan_records.specs.declared.What.{What}
use Rattle.forecasting.specs.Adds.{AreLasting}
use Rattle.forecasting.specs.declared.turns.Horizon.{Horizon}

-- what lasts of a plan from its clock up to this moment is here, in order
pub record IsHorizon (P : Plan) (horizon : Horizon) : Type 0 where
  pub ascending : IsNonDecreasingBy (λ turn. turn) horizon.lasting.items
  pub lasting : AreLasting P.contents P.clock horizon.until horizon.lasting.items

-- there is one, and it isn't after c
abbrev pub IsReached : Option ℕ → ℕ → Type 0
IsReached first c = (m : ℕ) × (first ≡ Some m) × (m ≤ c)

-- it is one of these, and what either reaches it reaches
pub record IsEarlier (first second found : Option ℕ) : Type 0 where
  pub one_of : (found ≡ first) ⊎ (found ≡ second)
  pub reaches_first : (c : ℕ) → IsReached first c → IsReached found c
  pub reaches_second : (c : ℕ) → IsReached second c → IsReached found c

-- after m there is no turn up to `until` before the next one, if there is one up to it
abbrev pub IsNextTurn : Ahead → ℕ → ℕ → Option ℕ → Type 0
IsNextTurn s m until next = MatchOption next ((c : ℕ) → m < c → c ≤ until → ¬ IsTurn s c) (λ x. (m < x) × (x ≤ until) × ((c : ℕ) → m < c → c < x → ¬ IsTurn s c))

-- by its time the duration of the operation at an index is over at c
abbrev pub IsEndAt : List (OpKey × Operation) → ℕ → Option ℕ → ℕ → Type 0
IsEndAt rows i since c = (o : OpKey) × (op : Operation) × (b : ℕ) × (slice_get rows i ≡ Some (o, op)) × (since ≡ Some b) × (b + op.duration ≡ c)

-- so it is of one of these indices
abbrev pub IsEndOf : List (OpKey × Operation) → List ℕ → List (Option ℕ) → ℕ → Type 0
IsEndOf rows places times c = (i : ℕ) × (since : Option ℕ) × Contains places i × (slice_get times i ≡ Some since) × IsEndAt rows i since c

-- x is the first moment with work, and this is done then
pub record IsFirstWork (s : Ahead) (until x : ℕ) (w : What) : Type 0 where
  pub from : s.plan.clock ≤ x
  pub within : x ≤ until
  pub idle : IsIdleUntil s x
  pub work : IsWork s x w
