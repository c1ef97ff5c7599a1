-- At which minute a desk is asked, and whether the words say which desk.
use Rattle.std.specs.Prelude.{◌≡◌, ◌⊎◌, ℕ, ℤ, pos, List, Option, Some, None}
use Rattle.plan_records.specs.plan_model.specs.Plan.{Plan}

-- the minute at which it is asked: the given one; where none is given, that of the plan's clock
abbrev pub minute_asked : Option ℤ → Plan → ℤ
minute_asked (Some z) P = z
minute_asked None P = pos P.clock

-- the words don't say at which desk: neither a database nor a plan, or a plan without its moment
abbrev pub IsNoDeskGiven : Option (List ℕ) → Option (List ℕ) → Option (List ℕ) → Type 0
IsNoDeskGiven db plan at = (db ≡ None) × ((plan ≡ None) ⊎ (at ≡ None))
