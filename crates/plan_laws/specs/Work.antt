-- How many operation records a request may look at: the plans before and after it decide one number.
use Rattle.std.specs.Prelude.{◌≡◌, ℕ}
use Rattle.plan_records.specs.plan_model.specs.Contents.{Contents}
use Rattle.plan_records.specs.plan_model.specs.Valid.{IsValid}
use Rattle.plan_records.specs.Work.{IsAllowance}
use Rattle.plan_records.specs.declared.What.{What}

-- a request that leads from one valid plan to another has an allowance
abbrev pub SomeAllowance : Type 0
SomeAllowance = (P Q : Contents) → IsValid P → IsValid Q → (w : What) → (n : ℕ) × IsAllowance P w Q n

-- and one at most
abbrev pub OneAllowance : Type 0
OneAllowance = (P Q : Contents) (w : What) (n k : ℕ) → IsAllowance P w Q n → IsAllowance P w Q k → n ≡ k
