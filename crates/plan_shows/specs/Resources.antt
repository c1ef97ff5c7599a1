-- Special resources, and who holds how much of each.
use Rattle.std.specs.Prelude.{◌≡◌, ◌↔◌, ℕ, ◌-◌, List, ◌∷◌, map, sum_by, Contains}
use Rattle.std.specs.FinMap.{entries}
use Rattle.std.specs.List.{AllZip}
use Rattle.std.specs.List.Sorted.{IsStrictlySortedBy}
use Rattle.plan_basics.specs.Keys.{Name, operation_cmp}
use Rattle.plan_basics.specs.declared.keys.OpKey.{OpKey}
use Rattle.plan_model.specs.Contents.{Contents}
use Rattle.plan_model.specs.Holdings.{Holds}
use Rattle.plan_model.specs.Status.{HasStatus}
use Rattle.plan_model.specs.declared.Stock.{Stock}
use Rattle.special_resources.specs.Holders.{Usage}
use Rattle.special_resources.specs.declared.Mode.{Mode}
use Rattle.special_resources.specs.declared.Mode.TheVariants.{Exclusive, Shared}
use Rattle.special_resources.specs.declared.holders.Holder.{Holder}
use Rattle.plan_shows.specs.declared.resources.HolderView.{HolderView}
use Rattle.plan_shows.specs.declared.resources.ResourceRow.{ResourceRow}
use Rattle.plan_shows.specs.declared.resources.ResourceRow.TheVariants as row
use Rattle.plan_shows.specs.declared.resources.ResourceView.{ResourceView}

-- how much of a quantity a claim takes: an exclusive one takes the whole
abbrev pub taken_by : ℕ → Mode → ℕ → ℕ
taken_by quantity Exclusive amount = quantity
taken_by quantity Shared amount = amount

-- o holds the resource
abbrev pub IsHolder : Contents → Name → OpKey → Type 0
IsHolder P r o = (usage : Usage) × Holds P o r usage

-- its status, how it holds the resource, of which there is so much, and how much of it
pub record IsHolderView (P : Contents) (r : Name) (quantity : ℕ) (h : HolderView) : Type 0 where
  pub usage : Usage
  pub holds : Holds P h.op r usage
  pub status : HasStatus P h.op h.status
  pub mode : h.mode ≡ usage.claim.mode
  pub amount : h.amount ≡ taken_by quantity usage.claim.mode usage.claim.amount

-- what is shown of a holder of a resource of which there is so much
pub record IsShown (P : Contents) (quantity : ℕ) (h : Holder) (v : HolderView) : Type 0 where
  pub op : v.op ≡ h.operation
  pub status : HasStatus P h.operation v.status
  pub mode : v.mode ≡ h.claim.mode
  pub amount : v.amount ≡ taken_by quantity h.claim.mode h.claim.amount

-- all that hold the resource, in key order
pub record AreHolderViews (P : Contents) (r : Name) (quantity : ℕ) (holders : List HolderView) : Type 0 where
  pub in_order : IsStrictlySortedBy operation_cmp (map (λ h. h.op) holders)
  pub every : (o : OpKey) → Contains (map (λ h. h.op) holders) o ↔ IsHolder P r o
  pub each : (h : HolderView) → Contains holders h → IsHolderView P r quantity h

-- what they leave of the quantity
abbrev pub left_by : ℕ → List HolderView → ℕ
left_by quantity holders = quantity - sum_by (λ h. h.amount) holders

-- what the plan has under this name: who holds it, and what is left
pub record IsResourceView (P : Contents) (x : Name × Stock) (v : ResourceView) : Type 0 where
  pub name : v.amounts.name ≡ x.0
  pub stock : v.amounts.stock ≡ x.1
  pub holders : AreHolderViews P x.0 x.1.quantity v.holders.items
  pub left : v.amounts.left ≡ left_by x.1.quantity v.holders.items

-- all special resources, by name
abbrev pub AreResourceViews : Contents → List ResourceView → Type 0
AreResourceViews P views = AllZip (IsResourceView P) (entries P.resources) views

-- the rows of a resource: its own, and one for each that holds it
abbrev pub rows_of : ResourceView → List ResourceRow
rows_of v = row.Resource v.amounts ∷ map row.Holder v.holders.items
