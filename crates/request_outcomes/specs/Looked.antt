-- How many operation records are looked at as a request is prepared.
use Rattle.std.specs.Prelude.{ℕ, ◌≤◌, Bool, false, List, count_by}
use Rattle.std.specs.FinMap.{contains_key}
use Rattle.plan_model.specs.Contents.{Contents}
use Rattle.plan_records.specs.Work.{IsAllowance}
use Rattle.plan_records.specs.declared.PlanRow.{PlanRow}
use Rattle.plan_records.specs.declared.PlanRow.TheVariants as row
use Rattle.plan_records.specs.declared.What.{What}

-- it is the row of an operation that P has, as it is now or was
abbrev pub is_known_operation : Contents → PlanRow → Bool
is_known_operation P (row.Operation r) = contains_key P.operations r.op
is_known_operation P _ = false

-- looks that are no more than the request is allowed, in going from P to Q
abbrev pub AreAllowed : Contents → What → Contents → ℕ → Type 0
AreAllowed P w Q looks = (n : ℕ) → IsAllowance P w Q n → looks ≤ n

-- looks that are no fewer than the rows among these that are of operations that P has
abbrev pub CoverRows : Contents → List PlanRow → ℕ → Type 0
CoverRows P rows looks = count_by (is_known_operation P) rows ≤ looks

-- looks that lie between the two, where these rows change from P to Q
pub record AreLooksFor (P : Contents) (w : What) (Q : Contents) (rows : List PlanRow) (looks : ℕ) : Type 0 where
  pub allowed : AreAllowed P w Q looks
  pub cover : CoverRows P rows looks
