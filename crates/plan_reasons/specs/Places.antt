-- Operations by the indices of their rows, and what is told of needs and holders one by one.
use Rattle.std.specs.Prelude.{◌≡◌, ◌&&◌, ℕ, Bool, true, false, cond, not, List, map, All, Option, Some, None, slice_get, slice_index_or}
use Rattle.std.specs.FinMap.{entries, get}
use Rattle.std.specs.Map.{keys_of}
use Rattle.std.specs.Ordering.{eq_by_cmp}
use Rattle.plan_basics.specs.Keys.{Name, operation_cmp}
use Rattle.plan_basics.specs.declared.Attr.{Attr}
use Rattle.plan_basics.specs.declared.Attr.TheVariants.{StartAndCompletion}
use Rattle.plan_basics.specs.declared.keys.OpKey.{OpKey}
use Rattle.special_resources.specs.declared.Mode.{Mode}
use Rattle.special_resources.specs.declared.Mode.TheVariants.{Shared}
use Rattle.special_resources.specs.declared.Need.{Need}
use Rattle.special_resources.specs.declared.holders.Holder.{Holder}
use Rattle.status_rules.specs.Classes.{is_satisfied, is_waiting_or_ready}
use Rattle.status_rules.specs.declared.Status.{Status}
use Rattle.status_rules.specs.declared.Status.TheVariants.{Interrupted}
use Rattle.plan_model.specs.Contents.{Contents, Operation, Resources}
use Rattle.plan_model.specs.Status.{HasStatus}
use Rattle.plan_model.specs.declared.Stock.{Stock}
use Rattle.plan_reasons.specs.declared.reasons.Reason.{Reason}
use Rattle.plan_reasons.specs.declared.reasons.Reason.TheVariants as reason
use Rattle.plan_reasons.specs.declared.reasons.Unsatisfied.{Unsatisfied}

-- whether an operation of this status goes on, on a workstation of this attribute
abbrev pub goes_on_from : Status → Attr → Bool
goes_on_from Interrupted StartAndCompletion = true
goes_on_from Interrupted _ = false
goes_on_from s a = is_waiting_or_ready s

-- o's row is at this index
abbrev pub IsAt : Contents → ℕ → OpKey → Type 0
IsAt P i o = (op : Operation) × (slice_get (entries P.operations) i ≡ Some (o, op))

-- these operations are at these indices, each with its status
pub record AreAt (P : Contents) (places : List ℕ) (found : List Unsatisfied) : Type 0 where
  pub keys : map (slice_get (keys_of (entries P.operations))) places ≡ map (λ x. Some x.op) found
  pub statuses : All (λ x. HasStatus P x.op x.status) found

-- which operations aren't satisfied, by their statuses
abbrev pub unsatisfied_flags : List Status → List Bool
unsatisfied_flags statuses = map (λ s. not (is_satisfied s)) statuses

-- whether there is an operation at this index that isn't satisfied, by the statuses of all
abbrev pub is_unsatisfied_at : List Status → ℕ → Bool
is_unsatisfied_at statuses i = slice_index_or (unsatisfied_flags statuses) i false

-- the reason that this workstation is closed, until its next interval begins, if there is one
abbrev pub closed_by : Name → Option ℕ → Reason
closed_by w (Some n) = reason.ClosedUntil (record { workstation = w; until = n })
closed_by w None = reason.Closed w

-- whether there is a special resource and it is available
abbrev pub is_available : Option Stock → Bool
is_available (Some stock) = stock.available
is_available None = false

-- the reason that the resource of a need isn't available
abbrev pub unavailable_of : Resources → Need → Option Reason
unavailable_of resources need = cond (is_available (get resources need.name)) None (Some (reason.Unavailable need.name))

-- whether the mode is shared
abbrev pub is_shared : Mode → Bool
is_shared Shared = true
is_shared _ = false

-- whether a holder is in the way of o, which needs its resource in this mode
abbrev pub is_in_way : OpKey → Mode → Holder → Bool
is_in_way o mode h = not (eq_by_cmp operation_cmp h.operation o) && not (is_shared mode && is_shared h.claim.mode)

-- the reason that a holder is
abbrev pub held_by : Holder → Reason
held_by h = reason.HeldBy (record { resource = h.resource; holder = h.operation; mode = h.claim.mode })

-- the reason that a holder is, if it is in the way
abbrev pub obstacle_of : OpKey → Mode → Holder → Option Reason
obstacle_of o mode h = cond (is_in_way o mode h) (Some (held_by h)) None
