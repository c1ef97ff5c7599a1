-- The times of operations, by the indices of their rows.
use Rattle.std.specs.Prelude.{◌≡◌, ℕ, List, Option, Some, slice_get}
use Rattle.plan_basics.specs.declared.keys.OpKey.{OpKey}
use Rattle.plan_model.specs.Contents.{Operation}

-- at the index of each row stands the time of its operation, if it has one
abbrev pub AreTimesOf : (OpKey → Option ℕ) → List (OpKey × Operation) → List (Option ℕ) → Type 0
AreTimesOf since rows times = (i : ℕ) (o : OpKey) (op : Operation) → slice_get rows i ≡ Some (o, op) → slice_get times i ≡ Some (since o)
