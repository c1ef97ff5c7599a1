-- Parts of the answer: the reasons of one kind, and of the first kinds; and the others that hold one special resource.
use Rattle.std.specs.Prelude.{◌≡◌, ◌≢◌, ◌↔◌, ℕ, ◌-◌, ◌<◌, List, AllPairs, Contains, Option, Some, None}
use Rattle.std.specs.FinMap.{get}
use Rattle.plan_basics.specs.Keys.{Name}
use Rattle.plan_basics.specs.declared.keys.OpKey.{OpKey}
use Rattle.special_resources.specs.Holders.{amount_held}
use Rattle.special_resources.specs.Holdings.{Held, HoldsIn}
use Rattle.special_resources.specs.declared.Need.{Need}
use Rattle.special_resources.specs.declared.holders.Holder.{Holder}
use Rattle.plan_core.specs.derived_figures.specs.Reports.{IsOfStatus}
use Rattle.plan_model.specs.Contents.{Contents, Operation, Resources}
use Rattle.plan_model.specs.Status.{HasStatus}
use Rattle.plan_model.specs.declared.Stock.{Stock}
use Rattle.plan_reasons.specs.Order.{ComesBefore, reason_place}
use Rattle.plan_reasons.specs.Reasons.{AreAllOthers, IsOtherHolder, IsReasonOf}
use Rattle.plan_reasons.specs.Whys.{AreInHoldingOrder}
use Rattle.plan_reasons.specs.declared.reasons.OtherHolder.{OtherHolder}
use Rattle.plan_reasons.specs.declared.reasons.Reason.{Reason}
use Rattle.plan_reasons.specs.declared.reasons.Scarcity.{Scarcity}

-- the reason of this kind, if there is one
abbrev pub IsOfKind : Contents → OpKey → Operation → ℕ → ℕ → Option Reason → Type 0
IsOfKind P o op m kind found = (r : Reason) → (found ≡ Some r) ↔ (IsReasonOf P o op m r × (reason_place r ≡ kind))

-- the reasons of this kind, in order
pub record AreOfKind (P : Contents) (o : OpKey) (op : Operation) (m kind : ℕ) (found : List Reason) : Type 0 where
  pub in_order : AllPairs ComesBefore found
  pub exactly : (r : Reason) → Contains found r ↔ (IsReasonOf P o op m r × (reason_place r ≡ kind))

-- the need is of more of its resource than all others that hold it leave
pub record IsShort (resources : Resources) (held : Held) (o : OpKey) (need : Need) (x : Scarcity) : Type 0 where
  pub resource : x.resource ≡ need.name
  pub stock : Stock
  pub there : get resources need.name ≡ Some stock
  pub others : List (OpKey × ℕ)
  pub are : AreAllOthers (HoldsIn held) o need.name others
  pub left : x.left ≡ stock.quantity - amount_held others
  pub needed : x.needed ≡ need.amount
  pub lacks : x.left < x.needed

-- the reasons of all kinds before this one, in order
pub record AreBefore (P : Contents) (o : OpKey) (op : Operation) (m kind : ℕ) (found : List Reason) : Type 0 where
  pub in_order : AllPairs ComesBefore found
  pub exactly : (r : Reason) → Contains found r ↔ (IsReasonOf P o op m r × (reason_place r < kind))

-- the list goes on from kind to kind: where it had the reasons of all kinds before the first, it has those before the second
abbrev pub GoesOn : Contents → OpKey → Operation → ℕ → ℕ → ℕ → List Reason → List Reason → Type 0
GoesOn P o op m first second old new = AreBefore P o op m first old → AreBefore P o op m second new

-- what is told of a holder: nothing where it is o itself, else it with its status
abbrev pub IsToldOf : Contents → OpKey → Holder → Option OtherHolder → Type 0
IsToldOf P o h None = h.operation ≡ o
IsToldOf P o h (Some x) = (h.operation ≢ o) × (x.holder ≡ h) × IsOfStatus P h.operation x.status

-- those of these holders that are others than o, in order
pub record AreOthersAmong (P : Contents) (o : OpKey) (holders : List Holder) (found : List OtherHolder) : Type 0 where
  pub in_order : AreInHoldingOrder found
  pub sound : (x : OtherHolder) → Contains found x → Contains holders x.holder × (x.holder.operation ≢ o) × HasStatus P x.holder.operation x.status
  pub complete : (x : OtherHolder) → Contains holders x.holder → x.holder.operation ≢ o → HasStatus P x.holder.operation x.status → Contains found x

-- exactly the others than o that hold the special resource, in order
pub record AreOthersOf (P : Contents) (o : OpKey) (r : Name) (found : List OtherHolder) : Type 0 where
  pub in_order : AreInHoldingOrder found
  pub exactly : (x : OtherHolder) → Contains found x ↔ ((x.holder.resource ≡ r) × IsOtherHolder P o x)
