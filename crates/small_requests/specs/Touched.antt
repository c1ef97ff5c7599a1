-- The places that a step touches.
use Rattle.std.specs.Prelude.{◌≡◌, ◌<◌, ℕ, List, Some, length, slice_get, Contains}
use Rattle.std.specs.FinMap.{entries}
use Rattle.std.specs.List.Sorted.{IsStrictlySortedBy}
use Rattle.std.specs.Ordering.{nat_cmp}
use Rattle.plan_basics.specs.declared.keys.OpKey.{OpKey}
use Rattle.plan_model.specs.Contents.{Contents, Operation}
use Rattle.plan_model.specs.Status.{HasStatus}
use Rattle.plan_rows.specs.Touched.{AreMovedAmong}
use Rattle.plan_checks.specs.plan_status.specs.Standings.{IsStanding}
use Rattle.plan_checks.specs.plan_status.specs.declared.standings.Standing.{Standing}
use Rattle.status_rules.specs.declared.Status.{Status}

-- what is known of o in P is so in Q
abbrev pub IsKnownAlike : Contents → Contents → OpKey → Type 0
IsKnownAlike P Q o = ((s : Standing) → IsStanding P o s → IsStanding Q o s) × ((s : Status) → HasStatus P o s → HasStatus Q o s)

-- so it is of each operation at another place than these
abbrev pub AreKnownAlike : Contents → Contents → List ℕ → Type 0
AreKnownAlike P Q places = (i : ℕ) → ¬ Contains places i → (o : OpKey) (op : Operation) → slice_get (entries P.operations) i ≡ Some (o, op) → IsKnownAlike P Q o

-- of operations no more than those at these places, ascending, differ between P and Q, nor what is known of others
pub record IsTouchedAt (P Q : Contents) (touched : List ℕ) : Type 0 where
  pub moved : AreMovedAmong P Q touched
  pub ascend : IsStrictlySortedBy nat_cmp touched
  pub within : (i : ℕ) → Contains touched i → i < length (entries P.operations)
  pub same : AreKnownAlike P Q touched
