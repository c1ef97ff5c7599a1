-- The plan whose rows these are.
use Rattle.std.specs.Prelude.{ℕ, false, List, Some}
use Rattle.plan_model.specs.Contents.{Contents}
use Rattle.plan_model.specs.Plan.{Plan, IsSoundPlan, plan_held}
use Rattle.plan_model.specs.Valid.{IsSound}
use Rattle.plan_records.specs.Rows.{AreRows}
use Rattle.plan_records.specs.declared.PlanRow.{PlanRow}
use Rattle.plan_records.specs.declared.PlanRow.TheVariants as row

-- the row of the plan itself before one is loaded
abbrev pub first_row : PlanRow
first_row = row.Meta 2 false 0

-- a sound plan, and these are all its rows, each once
pub record IsPlanOf (rows : List PlanRow) (P : Plan) : Type 0 where
  pub sound : IsSoundPlan P
  pub are_rows : AreRows P rows

-- no sound plan has these rows
abbrev pub AreOfNoPlan : List PlanRow → Type 0
AreOfNoPlan rows = (P : Plan) → ¬ IsPlanOf rows P

-- sound contents, and these are all rows of the plan of them at this clock, each once
pub record AreContentsOf (clock : ℕ) (rows : List PlanRow) (P : Contents) : Type 0 where
  pub sound : IsSound P
  pub are_rows : AreRows (plan_held clock (Some P)) rows
