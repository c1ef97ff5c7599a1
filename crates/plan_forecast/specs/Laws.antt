-- What holds of every forecast.
use Rattle.std.specs.Prelude.{◌≡◌, ◌⊎◌, ℕ, ◌+◌, ◌*◌, ◌<◌, ◌≤◌, true, List, [], ◌∷◌, map, length, All, Option, Some, None}
use Rattle.std.specs.FinMap.{get, len}
use Rattle.plan_basics.specs.declared.keys.OpKey.{OpKey}
use Rattle.plan_basics.specs.Intervals.{OpenInterval}
use Rattle.plan_basics.specs.Keys.{Name}
use Rattle.plan_basics.specs.Minutes.{IsMoment}
use Rattle.plan_model.specs.Contents.{Contents, Has}
use Rattle.plan_model.specs.Plan.{Plan, IsSoundPlan}
use Rattle.plan_model.specs.Valid.{IsValid}
use Rattle.workstations.specs.Workstations.{Workstation}
use Rattle.plan_records.specs.declared.Request.{Request}
use Rattle.plan_records.specs.Answer.{Answer, accepted}
use Rattle.plan_records.specs.Laws.{BecomesStarted, WasProvidedFor}
use Rattle.plan_records.specs.Run.{Run, plain, usable}
use Rattle.plan_records.specs.Step.{Receipts, Step}
use Rattle.plan_forecast.specs.Ahead.{Ahead, HasWork, IsForecast, IsGoing, SomeMayBegin}
use Rattle.status_rules.specs.declared.Mark.TheVariants as mark
use Rattle.plan_basics.specs.declared.Attr.TheVariants as attribute

-- one forecast at most
abbrev pub OneForecast : Type 0
OneForecast = (P : Plan) (known : OpKey → Option ℕ) (m until : ℕ) (a b : List Request) (s t : Ahead) → IsForecast P known m until a s → IsForecast P known m until b t → (a ≡ b) × (s ≡ t)

-- and one at least: of a sound plan that is loaded, from no moment before its clock on; each of its requests is accepted
abbrev pub SomeForecast : Type 0
SomeForecast =
    (P : Plan) (known : OpKey → Option ℕ) (m until : ℕ) → IsSoundPlan P → P.loaded ≡ true → P.clock ≤ m → IsMoment m → IsMoment until
    → (requests : List Request) × (last : Ahead) × IsForecast P known m until requests last

-- it has at most one request more than twice the operations of the plan: each but the first ends or begins one
abbrev pub ForecastIsShort : Type 0
ForecastIsShort = (P : Plan) (known : OpKey → Option ℕ) (m until : ℕ) (requests : List Request) (last : Ahead) → IsSoundPlan P → IsForecast P known m until requests last → length requests ≤ 1 + 2 * len P.contents.operations

-- each of these answers accepts
abbrev pub AllAccept : List Answer → Type 0
AllAccept replies = All (λ x. (chosen : List OpKey) × (x ≡ accepted chosen)) replies

-- it is a run of the plan's own requests, all accepted, which leads to its last plan
abbrev pub ForecastIsRun : Type 0
ForecastIsRun =
    (P : Plan) (known : OpKey → Option ℕ) (m until : ℕ) (requests : List Request) (last : Ahead) (receipts : Receipts) → IsForecast P known m until requests last
    → (replies : List Answer) × AllAccept replies
    × Run (record { plan = P; receipts = receipts }) usable (map plain requests) replies (record { plan = last.plan; receipts = receipts }) usable

-- these requests lead from plan to plan, to the last one: each is accepted and leaves a sound plan, and for whatever becomes started by it there was all that it needs then
abbrev pub StartsAreProvidedIn : Plan → List Request → Plan → Type 0
StartsAreProvidedIn P [] after = after ≡ P
StartsAreProvidedIn P (q ∷ qs) after =
    (mid : Plan) × (chosen : List OpKey) × Step P q (accepted chosen) mid × IsSoundPlan mid
    × ((o : OpKey) → BecomesStarted P mid o → WasProvidedFor P q (accepted chosen) o)
    × StartsAreProvidedIn mid qs after

-- so it is with a forecast of a sound plan
abbrev pub ForecastIsProvided : Type 0
ForecastIsProvided = (P : Plan) (known : OpKey → Option ℕ) (m until : ℕ) (requests : List Request) (last : Ahead) → IsSoundPlan P → IsForecast P known m until requests last → StartsAreProvidedIn P requests last.plan

-- an interval of a workstation begins at c
abbrev pub IsOpening : Contents → ℕ → Type 0
IsOpening P c = (w : Name) × (ws : Workstation) × (x : OpenInterval) × (get P.workstations w ≡ Some ws) × (get ws.intervals c ≡ Some x)

-- the not-before of an operation is c
abbrev pub IsNotBefore : Contents → ℕ → Type 0
IsNotBefore P c = (o : OpKey) × Has P o (λ op. op.not_before ≡ c)

-- the duration of something that is going is over at c
abbrev pub IsEnd : Ahead → ℕ → Type 0
IsEnd s c = (o : OpKey) × IsGoing s.plan.contents o × Has s.plan.contents o (λ op. (b : ℕ) × (s.since o ≡ Some b) × (b + op.duration ≡ c))

-- a moment at which there may be work that there wasn't before, by time alone
abbrev pub IsTurn : Ahead → ℕ → Type 0
IsTurn s c = (c ≡ s.plan.clock) ⊎ IsOpening s.plan.contents c ⊎ IsNotBefore s.plan.contents c ⊎ IsEnd s c

-- where there is work there was some at such a moment, from the clock on; so only these have to be looked at
abbrev pub WorkBeginsAtTurns : Type 0
WorkBeginsAtTurns = (s : Ahead) → IsValid s.plan.contents → (y : ℕ) → s.plan.clock ≤ y → HasWork s y → (c : ℕ) × (s.plan.clock ≤ c) × (c ≤ y) × IsTurn s c × HasWork s c

-- what may still come after the last request: what is going has its end after `until`, and nothing may begin up to it
pub record IsLastUpTo (until : ℕ) (last : Ahead) : Type 0 where
  pub going : (o : OpKey) → IsGoing last.plan.contents o → Has last.plan.contents o (λ op. (b : ℕ) × (last.since o ≡ Some b) × (until < b + op.duration))
  pub none_begins : (x : ℕ) → last.plan.clock ≤ x → x ≤ until → ¬ SomeMayBegin attribute.Automatic last x × ¬ SomeMayBegin attribute.StartAndCompletion last x

-- a forecast goes to its end
abbrev pub ForecastGoesToEnd : Type 0
ForecastGoesToEnd = (P : Plan) (known : OpKey → Option ℕ) (m until : ℕ) (requests : List Request) (last : Ahead) → m ≤ until → IsForecast P known m until requests last → IsLastUpTo until last

-- so it is known of a start in the plan from which a forecast is made at m: what runs, its reported start if one is known, else m; what is only named, m
abbrev pub IsStartTaken : Contents → (OpKey → Option ℕ) → ℕ → OpKey → ℕ → Type 0
IsStartTaken P known m o b =
    (Has P o (λ op. op.mark ≡ mark.Running) × (known o ≡ Some b))
    ⊎ (Has P o (λ op. op.mark ≡ mark.Running) × (known o ≡ None) × (b ≡ m))
    ⊎ (Has P o (λ op. op.mark ≡ mark.Named) × (b ≡ m))

-- nothing that is started ends in a forecast before its whole duration from that
abbrev pub NoneEndsEarly : Type 0
NoneEndsEarly =
    (P : Plan) (known : OpKey → Option ℕ) (m until : ℕ) (requests : List Request) (last : Ahead) → IsForecast P known m until requests last
    → (o : OpKey) (b e : ℕ) → IsStartTaken P.contents known m o b → last.done o ≡ Some e → Has P.contents o (λ op. b + op.duration ≤ e)
