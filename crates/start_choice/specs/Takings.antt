-- What one more operation takes of its workstation, and whether it can.
use Rattle.std.specs.Prelude.{◌≡◌, ◌↔◌, ◌≢◌, ℕ, ◌+◌, ◌*◌, ◌<◌, ◌≤◌, ◌&&◌, Bool, true, Some, None}
use Rattle.std.specs.FinMap.{get}
use Rattle.plan_basics.specs.Keys.{Name}
use Rattle.plan_basics.specs.Refusals.{number_of}
use Rattle.plan_basics.specs.declared.Refusal.{Refusal}
use Rattle.plan_basics.specs.declared.limits.TheConstants.{MOST_FIXED, MOST_OPERATIONS}
use Rattle.plan_basics.specs.declared.keys.OpKey.{OpKey}
use Rattle.special_resources.specs.Holders.{FitsBeside, Usage}
use Rattle.special_resources.specs.Holdings.{Held, HoldsIn, usage_of}
use Rattle.special_resources.specs.Needs.{Usages}
use Rattle.special_resources.specs.declared.Claim.{Claim}
use Rattle.special_resources.specs.declared.Need.{Need}
use Rattle.status_rules.specs.Table.{marked_status}
use Rattle.status_rules.specs.declared.Mark.{Mark}
use Rattle.plan_model.specs.Holdings.{holds_resource, holds_server, takes}
use Rattle.plan_model.specs.Contents.{Contents, Operation, Resources, attribute_at}
use Rattle.plan_model.specs.declared.Stock.{Stock}
use Rattle.plan_model.specs.Starts.{MayStart}
use Rattle.workstations.specs.declared.Capacity.{Capacity}
use Rattle.start_choice.specs.Choices.{IsStartLine}

-- whether the operation holds a server of its workstation
abbrev pub takes_server : Contents → Operation → Bool
takes_server P op = takes (attribute_at P op.workstation) && holds_server (marked_status op.mark)

-- a server more, and the operation's R1 and R2
abbrev pub with_one_more : Capacity → Operation → Capacity
with_one_more taken op = record { servers = taken.servers + 1; r1 = taken.r1 + op.r1; r2 = taken.r2 + op.r2 }

-- how much all operations of a plan give out of one thing at most: as many as there may be, each of as much as it may need
abbrev pub most_given_out : ℕ
most_given_out = MOST_OPERATIONS * MOST_FIXED

-- each of the three is at most this
pub record IsAtMost (limit : ℕ) (taken : Capacity) : Type 0 where
  pub servers : taken.servers ≤ limit
  pub r1 : taken.r1 ≤ limit
  pub r2 : taken.r2 ≤ limit

-- what o needs to start at m, but for its status
abbrev pub CanStart : Contents → OpKey → Operation → ℕ → Type 0
CanStart P o op m = (r : Refusal) → IsStartLine r → MayStart P o op m r

-- of these lines o meets each whose number is below that of r
abbrev pub MeetsLinesBelow : Contents → OpKey → Operation → ℕ → Refusal → Type 0
MeetsLinesBelow P o op m r = (lower : Refusal) → IsStartLine lower → number_of lower < number_of r → MayStart P o op m lower

-- ---- special resources

-- r is available; where another than o holds it, both share it, and there is enough of it for all
abbrev pub CanUse : Resources → Held → OpKey → Name → Usage → Type 0
CanUse resources held o r usage = (stock : Stock) × (get resources r ≡ Some stock) × (stock.available ≡ true) × FitsBeside stock.quantity (HoldsIn held) o r usage

-- o can use the resource of its need
abbrev pub CanMeetNeed : Resources → Held → OpKey → Need → Type 0
CanMeetNeed resources held o need = CanUse resources held o need.name (usage_of need)

-- o can use all that it needs
abbrev pub CanMeetNeeds : Resources → Held → OpKey → Usages → Type 0
CanMeetNeeds resources held o needs = (r : Name) (usage : Usage) → get needs r ≡ Some usage → CanUse resources held o r usage

-- what o, with this mark, takes of what it needs and doesn't hold before; nothing else changes
pub record HaveTaken (before : Held) (o : OpKey) (needs : Usages) (mark : Mark) (after : Held) : Type 0 where
  pub others : (p : OpKey) (r : Name) → p ≢ o → get after (r, p) ≡ get before (r, p)
  pub kept : (r : Name) (claim : Claim) → get before (r, o) ≡ Some claim → get after (r, o) ≡ Some claim
  pub own : (r : Name) → get before (r, o) ≡ None → (claim : Claim) → (get after (r, o) ≡ Some claim)
      ↔ ((keep : Bool) × (get needs r ≡ Some (record { claim = claim; keep = keep })) × (holds_resource keep (marked_status mark) ≡ true))
