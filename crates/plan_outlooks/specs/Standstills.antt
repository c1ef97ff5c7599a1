-- The operations that a forecast never begins, and why.
use Rattle.std.specs.Prelude.{◌≡◌, ◌⊎◌, Bool, false, true, ℕ, ◌≤◌, ◌<◌, List, Option, Some, None}
use Rattle.std.specs.FinMap.{get}
use Rattle.std.specs.Ordering.{bool_cmp, ordering_then}
use Rattle.std.specs.declared.cmp.Ordering.{Ordering}
use Rattle.plan_basics.specs.Keys.{operation_cmp}
use Rattle.plan_basics.specs.declared.keys.OpKey.{OpKey}
use Rattle.plan_model.specs.Contents.{Contents, Has, HasAttribute, Operation}
use Rattle.plan_model.specs.Starts.{IsLatestStart}
use Rattle.plan_model.specs.Status.{HasStatus}
use Rattle.plan_reasons.specs.Reasons.{IsClosedAt}
use Rattle.plan_reasons.specs.Whys.{IsFirstReason}
use Rattle.plan_reasons.specs.declared.reasons.Reason.{Reason}
use Rattle.status_rules.specs.declared.Mark.{Mark}
use Rattle.status_rules.specs.declared.Mark.TheVariants as mark
use Rattle.status_rules.specs.declared.Status.{Status}
use Rattle.status_rules.specs.declared.Status.TheVariants.{Waiting}
use Rattle.workstations.specs.Workstations.{Workstation}
use Rattle.plan_outlooks.specs.Forecasts.{Forecast, NeverBegins, told_to}
use Rattle.plan_outlooks.specs.Rows.{AreRowsOf}
use Rattle.plan_outlooks.specs.declared.rows.Standing.{Standing}
use Rattle.plan_outlooks.specs.declared.rows.Standing.TheVariants as standing
use Rattle.plan_outlooks.specs.declared.rows.Standstill.{Standstill}

-- m is the first minute from n on at which the workstation is open, or n where it is open at none
abbrev pub IsOpenFirst : Workstation → ℕ → ℕ → Type 0
IsOpenFirst ws n m =
    ((n ≤ m) × ¬ IsClosedAt ws m × ((k : ℕ) → n ≤ k → k < m → IsClosedAt ws k))
    ⊎ ((m ≡ n) × ((k : ℕ) → n ≤ k → IsClosedAt ws k))

-- the later of two minutes
abbrev pub IsLater : ℕ → ℕ → ℕ → Type 0
IsLater a b n = (a ≤ n) × (b ≤ n) × ((n ≡ a) ⊎ (n ≡ b))

-- the minute at which it is asked why the operation doesn't go on: the first from `to` on that isn't before its not-before and at which its workstation is open; where it is open no more, the later of these two
abbrev pub IsAsked : Contents → Operation → ℕ → ℕ → Type 0
IsAsked P op to m = (ws : Workstation) × (get P.workstations op.workstation ≡ Some ws) × ((n : ℕ) × IsLater to op.not_before n × IsOpenFirst ws n m)

-- why it doesn't begin, by its own mark; else by the first reason why it doesn't go on, and where there is none, it begins later than is told of
abbrev pub standing_by : Mark → Option Reason → Standing
standing_by (mark.Error code) found = standing.InError code
standing_by mark.Interrupted found = standing.Interrupted
standing_by mark.Undecided found = standing.Undecided
standing_by m (Some r) = standing.For r
standing_by m None = standing.Later

-- its status in the end, and its workstation; the minute at which it is asked why it doesn't go on, and why that is then; and its latest start
pub record IsStandstill (F : Forecast) (r : Standstill) : Type 0 where
  pub status : HasStatus F.last.plan.contents r.key r.status
  pub op : Operation
  pub is_in_plan : get F.last.plan.contents.operations r.key ≡ Some op
  pub workstation : (r.workstation ≡ op.workstation) × HasAttribute F.last.plan.contents op.workstation r.attribute
  pub asked : Has F.last.plan.contents r.key (λ op. IsAsked F.last.plan.contents op (told_to F) r.at)
  pub found : Option Reason
  pub reason : IsFirstReason F.last.plan.contents r.key r.at found
  pub standing : r.standing ≡ standing_by op.mark found
  pub latest : IsLatestStart F.plan.contents r.key r.latest

-- whether the status is waiting
abbrev pub is_waiting : Status → Bool
is_waiting Waiting = true
is_waiting s = false

-- what its place goes by: whether it waits, and then the key
abbrev pub standstill_place : Standstill → Bool × OpKey
standstill_place r = (is_waiting r.status, r.key)

-- what doesn't wait first, then by key
abbrev pub waiting_key_cmp : Bool × OpKey → Bool × OpKey → Ordering
waiting_key_cmp a b = ordering_then (bool_cmp a.0 b.0) (operation_cmp a.1 b.1)

-- all operations that never begin, by key
abbrev pub AreStandstillsByKey : Forecast → List Standstill → Type 0
AreStandstillsByKey F rows = AreRowsOf operation_cmp (λ (r : Standstill). r.key) (λ (r : Standstill). r.key) (NeverBegins F) (IsStandstill F) rows

-- all operations that never begin, those that don't wait first, then by key
abbrev pub AreStandstills : Forecast → List Standstill → Type 0
AreStandstills F rows = AreRowsOf waiting_key_cmp standstill_place (λ (r : Standstill). r.key) (NeverBegins F) (IsStandstill F) rows
