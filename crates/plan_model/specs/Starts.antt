-- When an operation is allowed to start, and its latest start.
use Rattle.std.specs.Prelude.{◌≡◌, ◌⊎◌, ℕ, ◌≤◌, true, false, Option, Some, None, ℤ}
use Rattle.std.specs.FinMap.{get}
use Rattle.plan_basics.specs.declared.Attr.TheVariants as attribute
use Rattle.plan_basics.specs.declared.keys.OpKey.{OpKey}
use Rattle.plan_basics.specs.Refusals.{NoneRefuses}
use Rattle.plan_basics.specs.declared.Refusal.{Refusal}
use Rattle.plan_basics.specs.declared.Refusal.TheVariants as refusal
use Rattle.plan_basics.specs.Keys.{Name}
use Rattle.workstations.specs.Workstations.{Workstation, HasRoom}
use Rattle.special_resources.specs.Holders.{Usage, FitsBeside}
use Rattle.latest_start.specs.operation_graph.specs.Paths.{ReachesBy}
use Rattle.latest_start.specs.LeastStart.{IsLeastStart}
use Rattle.status_rules.specs.declared.Status.TheVariants as status
use Rattle.plan_model.specs.Contents.{Contents, Operation, Has, HasAttribute, Precedes, IsLive}
use Rattle.plan_model.specs.declared.Stock.{Stock}
use Rattle.plan_model.specs.Status.{HasStatus, IsReady}
use Rattle.plan_model.specs.Holdings.{given_out, Holds}

-- what this refusal asks of the operation's workstation at m, beside what is given out there: Closed, that it is open; NoServer, that a server is left; NoFixed, that R1 and R2 are left
abbrev pub FitsAt : Contents → Operation → ℕ → Refusal → Type 0
FitsAt P op m line = (ws : Workstation) × (get P.workstations op.workstation ≡ Some ws) × HasRoom ws m (given_out P op.workstation) op.r1 op.r2 line

-- what has to be so lest a start of o at m be refused so; a refusal that has no line here never stands in its way
abbrev pub MayStart : Contents → OpKey → Operation → ℕ → Refusal → Type 0
MayStart P o op m refusal.WrongStatus = IsReady P o ⊎ (HasStatus P o status.Interrupted × HasAttribute P op.workstation attribute.StartAndCompletion)
MayStart P o op m refusal.Held = op.held ≡ false
MayStart P o op m refusal.TooEarly = op.not_before ≤ m
MayStart P o op m refusal.Closed = FitsAt P op m refusal.Closed
MayStart P o op m refusal.NoServer = FitsAt P op m refusal.NoServer
MayStart P o op m refusal.NoFixed = FitsAt P op m refusal.NoFixed
MayStart P o op m refusal.ResourceBusy = (r : Name) (usage : Usage) → get op.needs r ≡ Some usage
    → (stock : Stock) × (get P.resources r ≡ Some stock) × (stock.available ≡ true) × FitsBeside stock.quantity (Holds P) o r usage
MayStart P o op m _ = Unit {0}

-- o is in the plan, and none of these refusals is given at m
abbrev pub IsAllowedToStart : Contents → OpKey → ℕ → Type 0
IsAllowedToStart P o m = Has P o (λ op. NoneRefuses (MayStart P o op m))

-- an operation reaches another by a path whose members after the first aren't deleted; it reaches itself
abbrev pub Reaches : Contents → OpKey → OpKey → Type 0
Reaches P = ReachesBy (Precedes P) (IsLive P)

-- a number of the operation, 0 where there is none
abbrev pub amount_of : Option Operation → (Operation → ℕ) → ℕ
amount_of (Some op) f = f op
amount_of None f = 0

-- the least, over all paths from o, of the last member's deadline less all durations
abbrev pub IsLatestStart : Contents → OpKey → ℤ → Type 0
IsLatestStart P = IsLeastStart (Precedes P) (IsLive P) (λ o. amount_of (get P.operations o) (λ op. op.duration)) (λ o. amount_of (get P.operations o) (λ op. op.deadline))
