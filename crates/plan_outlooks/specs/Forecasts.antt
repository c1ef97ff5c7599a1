-- A forecast of a plan, and when its operations begin and end in it.
use Rattle.std.specs.Prelude.{◌≡◌, ◌⊎◌, Bool, true, false, ℕ, ◌<◌, ℤ, pos, ◌+ℤ◌, ◌≤ℤ◌, List, Option, Some, None}
use Rattle.std.specs.Option.{option_or}
use Rattle.plan_basics.specs.declared.keys.OpKey.{OpKey}
use Rattle.plan_forecast.specs.Ahead.{Ahead, IsForecast, IsGoing}
use Rattle.plan_model.specs.Contents.{Contents, Has, IsInPlan}
use Rattle.plan_model.specs.Plan.{Plan}
use Rattle.plan_model.specs.Status.{HasStatus}
use Rattle.plan_records.specs.declared.Request.{Request}
use Rattle.status_rules.specs.declared.Mark.{Mark}
use Rattle.status_rules.specs.declared.Mark.TheVariants as mark
use Rattle.status_rules.specs.declared.Status.TheVariants.{Complete, Deleted}

-- a plan, since when what is going in it is known to be named, to run or to be ready, the minute of the forecast, the one up to which it was asked for, if one, its requests, and the plan to which they lead
pub record Forecast : Type 0 where
  pub plan : Plan
  pub known : OpKey → Option ℕ
  pub from : ℕ
  pub until : Option ℕ
  pub requests : List Request
  pub last : Ahead

-- the minute up to which it goes: where none was asked for, the last that a plan can name
abbrev pub limit_of : Option ℕ → ℕ
limit_of (Some m) = m
limit_of None = 52595999

-- it is one
abbrev pub IsForecastOf : Forecast → Type 0
IsForecastOf F = IsForecast F.plan F.known F.from (limit_of F.until) F.requests F.last

-- a minute, or else this one
abbrev pub minute_or : ℕ → Option ℕ → ℕ
minute_or m (Some n) = n
minute_or m None = m

-- the minute up to which it tells: the one that was asked for, else that of its last request
abbrev pub told_to : Forecast → ℕ
told_to F = minute_or F.last.plan.clock F.until

-- o is an operation of the plan, neither complete nor deleted
abbrev pub IsOutstanding : Contents → OpKey → Type 0
IsOutstanding P o = IsInPlan P o × ¬ HasStatus P o Complete × ¬ HasStatus P o Deleted

-- in the end it is going or complete
abbrev pub HasBegun : Forecast → OpKey → Type 0
HasBegun F o = IsGoing F.last.plan.contents o ⊎ HasStatus F.last.plan.contents o Complete

-- it is outstanding, and the forecast begins it, or it is going already
abbrev pub Begins : Forecast → OpKey → Type 0
Begins F o = IsOutstanding F.plan.contents o × HasBegun F o

-- it is outstanding, and the forecast doesn't begin it
abbrev pub NeverBegins : Forecast → OpKey → Type 0
NeverBegins F o = IsOutstanding F.plan.contents o × ¬ HasBegun F o

-- whether nothing has been reported or decided by a mark
abbrev pub is_unmarked : Mark → Bool
is_unmarked mark.Unmarked = true
is_unmarked m = false

-- the forecast doesn't begin it, and it hasn't begun and failed before
abbrev pub StaysOut : Forecast → OpKey → Type 0
StaysOut F o = NeverBegins F o × Has F.last.plan.contents o (λ op. is_unmarked op.mark ≡ true)

-- the minute at which it begins: since when it is going, or where it passes by itself, since when it is complete
abbrev pub begin_minute : Forecast → OpKey → ℕ
begin_minute F o = minute_or F.from (option_or (F.last.since o) (F.last.done o))

-- whether the plan named it, and its start isn't reported
abbrev pub is_named : Mark → Bool
is_named mark.Named = true
is_named m = false

-- it isn't only named, and nothing is known of since when it is going
abbrev pub IsUntold : Forecast → OpKey → Type 0
IsUntold F o = Has F.plan.contents o (λ op. is_named op.mark ≡ false) × (F.known o ≡ None)

-- it is going since nobody knows when, and so it is taken to begin at the forecast's minute
abbrev pub IsSinceUnknown : Forecast → OpKey → Type 0
IsSinceUnknown F o = IsGoing F.plan.contents o × IsUntold F o × (F.last.since o ≡ Some F.from)

-- a minute, if it is known
abbrev pub if_known : Bool → ℕ → Option ℕ
if_known true m = Some m
if_known false m = None

-- by how many minutes this minute is after a bound, if it is
abbrev pub IsLateBy : Option ℕ → ℤ → Option ℕ → Type 0
IsLateBy (Some m) bound (Some n) = (0 < n) × (pos m ≡ bound +ℤ pos n)
IsLateBy (Some m) bound None = pos m ≤ℤ bound
IsLateBy None bound late = late ≡ None
