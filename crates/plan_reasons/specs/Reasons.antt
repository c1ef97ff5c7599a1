-- Why an operation doesn't start, complete or pass at a moment: each reason by itself.
use Rattle.std.specs.Prelude.{◌≡◌, ◌≢◌, ℕ, ◌+◌, ◌-◌, ◌<◌, ◌≤◌, ◌&&◌, Bool, List, Contains, true, not, Option, Some, None}
use Rattle.std.specs.Option.{is_none}
use Rattle.std.specs.FinMap.{get}
use Rattle.plan_basics.specs.Intervals.{OpenInterval}
use Rattle.plan_basics.specs.Keys.{Name}
use Rattle.plan_basics.specs.declared.Refusal.TheVariants.{WrongStatus}
use Rattle.plan_basics.specs.declared.keys.OpKey.{OpKey}
use Rattle.workstations.specs.Workstations.{HasCapacity, Workstation}
use Rattle.workstations.specs.declared.Capacity.{Capacity}
use Rattle.special_resources.specs.Holders.{AreHolders, OtherHolds, Usage, amount_held}
use Rattle.special_resources.specs.declared.Mode.TheVariants.{Shared}
use Rattle.status_rules.specs.Table.{marked_status}
use Rattle.status_rules.specs.declared.Mark.{Mark}
use Rattle.status_rules.specs.declared.Mark.TheVariants as mark
use Rattle.status_rules.specs.declared.Status.TheVariants.{Waiting}
use Rattle.plan_model.specs.Contents.{Contents, Has, IsLive, Operation, Precedes, attribute_at}
use Rattle.plan_model.specs.Holdings.{Holds, given_out, takes}
use Rattle.plan_model.specs.Starts.{MayStart}
use Rattle.plan_model.specs.declared.Stock.{Stock}
use Rattle.plan_model.specs.Status.{HasStatus, IsSatisfied}
use Rattle.plan_reasons.specs.declared.reasons.Beginning.{Beginning}
use Rattle.plan_reasons.specs.declared.reasons.Beginning.TheVariants as beginning
use Rattle.plan_reasons.specs.declared.reasons.Obstacle.{Obstacle}
use Rattle.plan_reasons.specs.declared.reasons.OtherHolder.{OtherHolder}
use Rattle.plan_reasons.specs.declared.reasons.Reason.{Reason}
use Rattle.plan_reasons.specs.declared.reasons.Reason.TheVariants as reason
use Rattle.plan_reasons.specs.declared.reasons.Scarcity.{Scarcity}
use Rattle.plan_reasons.specs.declared.reasons.Shortage.{Shortage}
use Rattle.plan_reasons.specs.declared.reasons.Supply.{Supply}
use Rattle.plan_reasons.specs.declared.reasons.Supply.TheVariants as supply

-- ---- predecessors

-- p is neither deleted nor satisfied
abbrev pub IsUnsatisfied : Contents → OpKey → Type 0
IsUnsatisfied P p = IsLive P p × ¬ IsSatisfied P p

-- o comes after p, which isn't satisfied
abbrev pub Follows : Contents → OpKey → OpKey → Type 0
Follows P o p = Precedes P p o × IsUnsatisfied P p

-- ---- workstations

-- whether the operation goes on by a start, with a server and its resources: starts are known on its workstation, and it isn't there to pass by itself, as a NOP without a mark is
abbrev pub needs_start : Contents → Operation → Bool
needs_start P op = takes (attribute_at P op.workstation) && not (op.nop && is_none (marked_status op.mark))

-- no interval of the workstation contains the minute
abbrev pub IsClosedAt : Workstation → ℕ → Type 0
IsClosedAt ws m = (c : Capacity) → ¬ HasCapacity ws m c

-- an interval of the workstation begins then
abbrev pub BeginsAt : Workstation → ℕ → Type 0
BeginsAt ws n = (x : OpenInterval) × (get ws.intervals n ≡ Some x)

-- the first minute of the workstation's next interval after m, if there is one
abbrev pub IsNextOpening : Workstation → ℕ → Option ℕ → Type 0
IsNextOpening ws m (Some n) = (m < n) × BeginsAt ws n × ((k : ℕ) → BeginsAt ws k → m < k → n ≤ k)
IsNextOpening ws m None = (k : ℕ) → BeginsAt ws k → k ≤ m

-- the workstation of this name is closed at m until its next interval begins, if there is one
abbrev pub IsClosedUntil : Contents → Name → ℕ → Option ℕ → Type 0
IsClosedUntil P w m next = (ws : Workstation) × (get P.workstations w ≡ Some ws) × IsClosedAt ws m × IsNextOpening ws m next

-- how much of a supply is given out, or open
abbrev pub amount_in : Supply → Capacity → ℕ
amount_in supply.Servers c = c.servers
amount_in supply.R1 c = c.r1
amount_in supply.R2 c = c.r2

-- how much of a supply the operation takes: one server, and of R1 and R2 what it needs
abbrev pub amount_needed : Supply → Operation → ℕ
amount_needed supply.Servers op = 1
amount_needed supply.R1 op = op.r1
amount_needed supply.R2 op = op.r2

-- the workstation is open at m, and less of the supply is open than is given out and needed
pub record IsShortage (P : Contents) (op : Operation) (m : ℕ) (x : Shortage) : Type 0 where
  pub workstation : x.workstation ≡ op.workstation
  pub ws : Workstation
  pub is_workstation : get P.workstations op.workstation ≡ Some ws
  pub capacity : Capacity
  pub is_open : HasCapacity ws m capacity
  pub given : x.given ≡ amount_in x.supply (given_out P op.workstation)
  pub open_then : x.offered ≡ amount_in x.supply capacity
  pub needed : x.needed ≡ amount_needed x.supply op
  pub lacks : x.offered < x.given + x.needed

-- ---- special resources

-- o needs the resource, and another operation holds it: not both share it
pub record IsObstacle (P : Contents) (o : OpKey) (op : Operation) (x : Obstacle) : Type 0 where
  pub usage : Usage
  pub needs : get op.needs x.resource ≡ Some usage
  pub another : x.holder ≢ o
  pub held : Usage
  pub holds : Holds P x.holder x.resource held
  pub mode : x.mode ≡ held.claim.mode
  pub in_the_way : ¬ ((usage.claim.mode ≡ Shared) × (held.claim.mode ≡ Shared))

-- these are all others that hold the resource, each once, with how much each holds
pub record AreAllOthers (holds : OpKey → Name → Usage → Type 0) (o : OpKey) (r : Name) (others : List (OpKey × ℕ)) : Type 0 where
  pub are : AreHolders (OtherHolds holds o) r others
  pub all : (other : OpKey) (usage : Usage) → OtherHolds holds o other r usage → Contains others (other, usage.claim.amount)

-- o needs more of the resource than all others that hold it leave
pub record IsScarce (P : Contents) (o : OpKey) (op : Operation) (x : Scarcity) : Type 0 where
  pub usage : Usage
  pub needs : get op.needs x.resource ≡ Some usage
  pub stock : Stock
  pub there : get P.resources x.resource ≡ Some stock
  pub others : List (OpKey × ℕ)
  pub are : AreAllOthers (Holds P) o x.resource others
  pub left : x.left ≡ stock.quantity - amount_held others
  pub needed : x.needed ≡ usage.claim.amount
  pub lacks : x.left < x.needed

-- x is another operation than o that holds the special resource so, with its status
pub record IsOtherHolder (P : Contents) (o : OpKey) (x : OtherHolder) : Type 0 where
  pub usage : Usage
  pub holds : OtherHolds (Holds P) o x.holder.operation x.holder.resource usage
  pub claim : x.holder.claim ≡ usage.claim
  pub status : HasStatus P x.holder.operation x.status

-- ---- the start

-- what a mark tells of a start: the plan named the operation, its start was reported, or it isn't started
abbrev pub beginning_by : Mark → Beginning
beginning_by mark.Named = beginning.Named
beginning_by mark.Running = beginning.Reported
beginning_by other = beginning.NotStarted

-- ---- the reasons

-- what each reason says of o, which is this operation, at m
abbrev pub IsReasonOf : Contents → OpKey → Operation → ℕ → Reason → Type 0
IsReasonOf P o op m (reason.AtRest x) = HasStatus P o x.status × (x.beginning ≡ beginning_by op.mark) × (x.status ≢ Waiting) × ¬ MayStart P o op m WrongStatus
IsReasonOf P o op m (reason.WaitsFor x) = HasStatus P o Waiting × Follows P o x.op × HasStatus P x.op x.status
IsReasonOf P o op m reason.Held = op.held ≡ true
IsReasonOf P o op m (reason.TooEarly t) = (needs_start P op ≡ true) × (t ≡ op.not_before) × (m < t)
IsReasonOf P o op m (reason.Closed w) = (needs_start P op ≡ true) × (w ≡ op.workstation) × IsClosedUntil P op.workstation m None
IsReasonOf P o op m (reason.ClosedUntil x) = (needs_start P op ≡ true) × (x.workstation ≡ op.workstation) × IsClosedUntil P op.workstation m (Some x.until)
IsReasonOf P o op m (reason.Lacks x) = (needs_start P op ≡ true) × IsShortage P op m x
IsReasonOf P o op m (reason.Unavailable r) = (needs_start P op ≡ true) × ((usage : Usage) × (get op.needs r ≡ Some usage)) × ¬ ((stock : Stock) × (get P.resources r ≡ Some stock) × (stock.available ≡ true))
IsReasonOf P o op m (reason.HeldBy x) = (needs_start P op ≡ true) × IsObstacle P o op x
IsReasonOf P o op m (reason.TooLittleLeft x) = (needs_start P op ≡ true) × IsScarce P o op x

-- it is a reason why o, an operation of the plan, doesn't go on at m
abbrev pub IsReason : Contents → OpKey → ℕ → Reason → Type 0
IsReason P o m r = Has P o (λ op. IsReasonOf P o op m r)

-- the special resource of which others leave too little by the reason, if it says so
abbrev pub lacking_by : Reason → Option Name
lacking_by (reason.TooLittleLeft x) = Some x.resource
lacking_by r = None
