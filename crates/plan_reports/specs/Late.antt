-- Which operations of a plan are late, and how they are listed.
use Rattle.std.specs.Prelude.{◌↔◌, ◌&&◌, ℕ, ℤ, pos, ◌<ℤ◌, int_lt, Bool, List, map, Contains}
use Rattle.std.specs.List.Sorted.{IsStrictlySortedBy}
use Rattle.std.specs.Ordering.{int_cmp, ordering_then}
use Rattle.std.specs.declared.cmp.Ordering.{Ordering}
use Rattle.plan_basics.specs.Keys.{operation_cmp}
use Rattle.plan_basics.specs.declared.keys.OpKey.{OpKey}
use Rattle.desk_tables.specs.plan_core.specs.Views.{IsOpView}
use Rattle.desk_tables.specs.plan_core.specs.declared.views.OpView.{OpView}
use Rattle.plan_model.specs.Plan.{Plan}
use Rattle.plan_model.specs.Starts.{IsLatestStart}
use Rattle.plan_model.specs.Status.{IsWaitingOrReady}
use Rattle.status_rules.specs.Classes.{is_waiting_or_ready}

-- o waits, is arriving or ready, and its latest start is before the clock
abbrev pub IsLate : Plan → OpKey → Type 0
IsLate P o = IsWaitingOrReady P.contents o × ((latest : ℤ) × IsLatestStart P.contents o latest × (latest <ℤ pos P.clock))

-- what the place in the list goes by: the latest start, and then the key
abbrev pub due : OpView → ℤ × OpKey
due v = (v.latest, v.key)

-- its order: by latest start, then key
abbrev pub due_cmp : ℤ × OpKey → ℤ × OpKey → Ordering
due_cmp a b = ordering_then (int_cmp a.0 b.0) (operation_cmp a.1 b.1)

-- all operations that are late, the earliest latest start first
pub record AreLateViews (P : Plan) (views : List OpView) : Type 0 where
  pub in_order : IsStrictlySortedBy due_cmp (map due views)
  pub every : (o : OpKey) → Contains (map (λ v. v.key) views) o ↔ IsLate P o
  pub each : (v : OpView) → Contains views v → IsOpView P.contents v

-- whether an operation with this view is late at this clock
abbrev pub is_late : ℕ → OpView → Bool
is_late clock v = is_waiting_or_ready v.status && int_lt v.latest (pos clock)
