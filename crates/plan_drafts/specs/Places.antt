-- What is known of rows, index by index.
use Rattle.std.specs.Prelude.{◌≡◌, ℕ, List, length, Some, slice_get}
use Rattle.std.specs.FinMap.{entries}
use Rattle.plan_model.specs.status_rules.specs.declared.Status.{Status}
use Rattle.plan_model.specs.Contents.{Contents}
use Rattle.plan_model.specs.Status.{HasStatus}

-- at each row's index, what is so of its key
pub record AreByPlace {K V X : Type 0} (rows : List (K × V)) (xs : List X) (is : K → X → Type 0) : Type 0 where
  pub size : length xs ≡ length rows
  pub each : (i : ℕ) (k : K) (v : V) (x : X) → slice_get rows i ≡ Some (k, v) → slice_get xs i ≡ Some x → is k x

-- the status of each operation, in key order
abbrev pub AreStatuses : Contents → List Status → Type 0
AreStatuses P statuses = AreByPlace (entries P.operations) statuses (HasStatus P)
