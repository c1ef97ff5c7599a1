-- The whole answer why an operation doesn't go on at a moment.
use Rattle.std.specs.Prelude.{◌≡◌, ◌↔◌, ℕ, List, [], ◌∷◌, AllPairs, Contains, Option, Some, None}
use Rattle.std.specs.declared.cmp.Ordering.TheVariants.{Less}
use Rattle.plan_basics.specs.Keys.{Name, operation_cmp}
use Rattle.plan_basics.specs.declared.keys.OpKey.{OpKey}
use Rattle.special_resources.specs.Holdings.{holding_cmp, holding_of}
use Rattle.plan_model.specs.Contents.{Contents}
use Rattle.plan_model.specs.Status.{HasStatus}
use Rattle.plan_reasons.specs.Order.{ComesBefore}
use Rattle.plan_reasons.specs.Reasons.{IsOtherHolder, IsReason, lacking_by}
use Rattle.plan_reasons.specs.Roots.{IsRoot}
use Rattle.plan_reasons.specs.declared.reasons.OtherHolder.{OtherHolder}
use Rattle.plan_reasons.specs.declared.reasons.Reason.{Reason}
use Rattle.plan_reasons.specs.declared.reasons.Unsatisfied.{Unsatisfied}
use Rattle.plan_reasons.specs.declared.answer.Why.{Why}

-- exactly the reasons why o doesn't go on at m, each once, in their order
pub record AreReasons (P : Contents) (o : OpKey) (m : ℕ) (reasons : List Reason) : Type 0 where
  pub in_order : AllPairs ComesBefore reasons
  pub exactly : (r : Reason) → Contains reasons r ↔ IsReason P o m r

-- the first of these reasons, if there is one
abbrev pub first_of : List Reason → Option Reason
first_of [] = None
first_of (r ∷ reasons) = Some r

-- the first of the reasons why o doesn't go on at m, in their order; nothing where there is none
abbrev pub IsFirstReason : Contents → OpKey → ℕ → Option Reason → Type 0
IsFirstReason P o m found = (reasons : List Reason) × AreReasons P o m reasons × (found ≡ first_of reasons)

-- by resource, and then in key order, each once
abbrev pub AreInHoldingOrder : List OtherHolder → Type 0
AreInHoldingOrder holders = AllPairs (λ x y. holding_cmp (holding_of x.holder) (holding_of y.holder) ≡ Less) holders

-- too little of the special resource is left by one of these reasons
abbrev pub IsLacking : List Reason → Name → Type 0
IsLacking reasons r = (x : Reason) × Contains reasons x × (lacking_by x ≡ Some r)

-- exactly the others than o that hold what lacks by these reasons, each once with its status, in their order
pub record AreOtherHolders (P : Contents) (o : OpKey) (reasons : List Reason) (holders : List OtherHolder) : Type 0 where
  pub in_order : AreInHoldingOrder holders
  pub exactly : (x : OtherHolder) → Contains holders x ↔ (IsLacking reasons x.holder.resource × IsOtherHolder P o x)

-- exactly the roots of o, each once with its status, in key order
pub record AreRoots (P : Contents) (o : OpKey) (roots : List Unsatisfied) : Type 0 where
  pub in_order : AllPairs (λ x y. operation_cmp x.op y.op ≡ Less) roots
  pub exactly : (x : Unsatisfied) → Contains roots x ↔ (IsRoot P o x.op × HasStatus P x.op x.status)

-- the status of o, its reasons at m, who holds what lacks by them, and its roots
pub record IsWhy (P : Contents) (o : OpKey) (m : ℕ) (w : Why) : Type 0 where
  pub status : HasStatus P o w.status
  pub reasons : AreReasons P o m w.reasons.items
  pub holders : AreOtherHolders P o w.reasons.items w.holders.items
  pub roots : AreRoots P o w.roots.items
