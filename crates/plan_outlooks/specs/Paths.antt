-- The paths by which occurrences will be late: what each operation begins after.
use Rattle.std.specs.Prelude.{◌≡◌, ◌⊎◌, ℕ, ◌<◌, ◌≤◌, List, [], ◌∷◌, ◌++◌, reverse, not, Option, Some, Decides}
use Rattle.std.specs.FinMap.{get}
use Rattle.std.specs.declared.cmp.Ordering.TheVariants.{Less}
use Rattle.plan_basics.specs.Intervals.{OpenInterval}
use Rattle.plan_basics.specs.Keys.{operation_cmp}
use Rattle.plan_basics.specs.declared.keys.OccKey.{OccKey}
use Rattle.plan_basics.specs.declared.keys.OpKey.{OpKey}
use Rattle.plan_forecast.specs.Ahead.{IsGoing}
use Rattle.plan_model.specs.Contents.{Contents, Has, IsInPlan, Precedes}
use Rattle.plan_model.specs.Status.{HasStatus}
use Rattle.plan_reasons.specs.declared.reasons.Reason.{Reason}
use Rattle.status_rules.specs.declared.Status.TheVariants.{Complete}
use Rattle.workstations.specs.Workstations.{Workstation}
use Rattle.plan_outlooks.specs.Forecasts.{Forecast, IsSinceUnknown, begin_minute}
use Rattle.plan_outlooks.specs.Lacks.{HasOf, IsLack}
use Rattle.plan_outlooks.specs.declared.rows.Cause.{Cause}
use Rattle.plan_outlooks.specs.declared.rows.Cause.TheVariants as cause
use Rattle.plan_outlooks.specs.declared.rows.OccurrenceOutlook.{OccurrenceOutlook}
use Rattle.plan_outlooks.specs.declared.rows.PathMember.{PathMember}

-- it begins at b
abbrev pub BeginsFrom : Forecast → OpKey → ℕ → Type 0
BeginsFrom F o b = b ≡ begin_minute F o

-- o isn't complete in the plan as it stands, and it is from this minute on
abbrev pub EndsAt : Forecast → ℕ → OpKey → Type 0
EndsAt F m o = IsInPlan F.plan.contents o × ¬ HasStatus F.plan.contents o Complete × (F.last.done o ≡ Some m)

-- p is to come before o, begins by this minute and ends then
abbrev pub IsAwaited : Forecast → OpKey → ℕ → OpKey → Type 0
IsAwaited F o m p = Precedes F.plan.contents p o × EndsAt F m p × ((b : ℕ) × BeginsFrom F p b × (b ≤ m))

-- an interval of o's workstation begins then
abbrev pub OpensAt : Contents → OpKey → ℕ → Type 0
OpensAt P o m = Has P o (λ op. (ws : Workstation) × (x : OpenInterval) × (get P.workstations op.workstation ≡ Some ws) × (get ws.intervals m ≡ Some x))

-- q begins before this minute, ends then, and has some of what lacks by a reason
-- (what frees something had it before, so that a path leads back)
abbrev pub IsFreeing : Forecast → ℕ → Option Reason → OpKey → Type 0
IsFreeing F m lack q = EndsAt F m q × ((b : ℕ) × BeginsFrom F q b × (b < m)) × HasOf F.plan.contents q lack

-- the causes in the order in which one goes before another
abbrev pub cause_place : Cause → ℕ
cause_place cause.Now = 0
cause_place cause.After = 1
cause_place cause.NotBefore = 2
cause_place cause.Opens = 3
cause_place cause.Frees = 4

-- what each says of o, which begins at m: it is going, or m is the forecast's minute; a predecessor ends then; m is its not-before; its workstation opens then; and else something that ends then freed what it lacked
abbrev pub CauseCase : Forecast → OpKey → ℕ → Cause → Type 0
CauseCase F o m cause.Now = IsGoing F.plan.contents o ⊎ (m ≡ F.from)
CauseCase F o m cause.After = (p : OpKey) × IsAwaited F o m p
CauseCase F o m cause.NotBefore = Has F.plan.contents o (λ op. op.not_before ≡ m)
CauseCase F o m cause.Opens = OpensAt F.plan.contents o m
CauseCase F o m cause.Frees = Unit {0}

-- what it begins after: the first of these that is so
abbrev pub IsCause : Forecast → OpKey → ℕ → Cause → Type 0
IsCause F o m c = CauseCase F o m c × ((d : Cause) → cause_place d < cause_place c → ¬ CauseCase F o m d)

-- the first in key order of those of which this is so
abbrev pub IsFirst : (OpKey → Type 0) → OpKey → Type 0
IsFirst IsSo p = IsSo p × ((q : OpKey) → IsSo q → ¬ (operation_cmp q p ≡ Less))

-- a member of the path by which c is late: when it begins and ends, what it begins after, and what it lacked first as that minute began
pub record IsMember (F : Forecast) (c : OccKey) (o : OpKey) (m : PathMember) : Type 0 where
  pub late : m.late ≡ c
  pub key : m.key ≡ o
  pub begin : BeginsFrom F o m.begin
  pub known : Decides (not m.is_known) (IsSinceUnknown F o)
  pub ending : F.last.done o ≡ Some m.end
  pub cause : IsCause F o m.begin m.cause
  pub lack : IsLack F.plan F.requests o m.begin m.lack

-- how a path goes on before o, which begins at m after this, where that lacked: with the first predecessor that ends then; with the first that frees what lacked, if there is one; or not at all
abbrev pub GoesBack : Forecast → OpKey → ℕ → Option Reason → Cause → (OpKey → Type 0) → Type 0 → Type 0
GoesBack F o m lack cause.After to none = (p : OpKey) × IsFirst (IsAwaited F o m) p × to p
GoesBack F o m lack cause.Frees to none = ((q : OpKey) × IsFirst (IsFreeing F m lack) q × to q) ⊎ (((q : OpKey) → ¬ IsFreeing F m lack q) × none)
GoesBack F o m lack c to none = none

-- the path to o by which c is late, the last member first
abbrev pub IsPathTo : Forecast → OccKey → OpKey → List PathMember → Type 0
IsPathTo F c o [] = ⊥
IsPathTo F c o (m ∷ earlier) = IsMember F c o m × GoesBack F o m.begin m.lack m.cause (λ p. IsPathTo F c p earlier) (earlier ≡ [])

-- the path by which an occurrence is late that ends at `end`, in the order in which its members begin: to its first operation in key order that ends then
abbrev pub IsLatePath : Forecast → OccKey → ℕ → List PathMember → Type 0
IsLatePath F c end path = (o : OpKey) × IsFirst (λ p. (p.occurrence ≡ c) × EndsAt F end p) o × ((back : List PathMember) × IsPathTo F c o back × (path ≡ reverse back))

-- what stands before the paths of further occurrences: the path of one that will be late, nothing for one that won't be
abbrev pub StandsBefore : Forecast → OccKey → Option ℕ → Option ℕ → List PathMember → Type 0
StandsBefore F c (Some end) (Some late) path = IsLatePath F c end path
StandsBefore F c end late path = path ≡ []

-- the paths of those of these occurrences that will be late, one after another
abbrev pub AreLatePaths : Forecast → List OccurrenceOutlook → List PathMember → Type 0
AreLatePaths F [] paths = paths ≡ []
AreLatePaths F (r ∷ rows) paths = (path : List PathMember) × (rest : List PathMember) × StandsBefore F r.key r.end r.late path × AreLatePaths F rows rest × (paths ≡ path ++ rest)
