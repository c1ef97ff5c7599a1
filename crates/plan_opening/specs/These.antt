-- Rows in any order.
use Rattle.std.specs.Prelude.{◌≢◌, ◌↔◌, List, Contains, AllPairs}
use Rattle.plan_records.specs.declared.PlanRow.{PlanRow}

-- these are all rows of that list, each once
pub record AreThese (rows all : List PlanRow) : Type 0 where
  pub has_all : (r : PlanRow) → Contains rows r ↔ Contains all r
  pub once : AllPairs (λ a b. a ≢ b) rows
