-- A plan: whether one is loaded, its clock, and what it holds.
use Rattle.std.specs.Prelude.{◌≡◌, ℕ, Bool, true, false, Option, Some, None}
use Rattle.plan_basics.specs.Minutes.{IsMoment}
use Rattle.plan_model.specs.Contents.{Contents, nothing}
use Rattle.plan_model.specs.Valid.{IsSound}

-- a plan
pub record Plan : Type 0 where
  pub loaded : Bool
  pub clock : ℕ
  pub contents : Contents

-- before one is loaded
abbrev pub no_plan : Plan
no_plan = record { loaded = false; clock = 0; contents = nothing }

-- its clock is a moment, what it holds is sound, and before a load there is nothing
pub record IsSoundPlan (P : Plan) : Type 0 where
  pub clock : IsMoment P.clock
  pub contents : IsSound P.contents
  pub before_load : P.loaded ≡ false → P ≡ no_plan

-- the plan of these contents at this clock, if one is loaded
abbrev pub plan_held : ℕ → Option Contents → Plan
plan_held clock None = record no_plan { clock = clock }
plan_held clock (Some contents) = record { loaded = true; clock = clock; contents = contents }
