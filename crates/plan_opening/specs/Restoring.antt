-- What the rows of the tables say, their derived columns aside.
use Rattle.std.specs.Prelude.{◌≢◌, ℕ, Bool, List, [], ◌∷◌, Option, Some, None}
use Rattle.std.specs.FinMap.{from_entries, get}
use Rattle.std.specs.List.{AllPairs, filter_map}
use Rattle.std.specs.Option.{unwrap_or}
use Rattle.plan_basics.specs.Keys.{Name, name_cmp}
use Rattle.plan_basics.specs.declared.keys.OpKey.{OpKey}
use Rattle.plan_basics.specs.declared.limits.TheConstants.{MOST_QUANTITY}
use Rattle.plan_model.specs.Contents.{Contents, Operation}
use Rattle.plan_items.specs.declared.Item.{Item}
use Rattle.plan_items.specs.declared.Item.TheVariants as item
use Rattle.plan_items.specs.declared.OperationItem.{OperationItem}
use Rattle.special_resources.specs.declared.Mode.{Mode}
use Rattle.special_resources.specs.declared.Mode.TheVariants.{Exclusive, Shared}
use Rattle.special_resources.specs.declared.Need.{Need}
use Rattle.plan_drafts.specs.KeyOrder.{AreInKeyOrder}
use Rattle.plan_drafts.specs.PlanItems.{need_cmp}
use Rattle.plan_records.specs.Changes.{is_at, revised}
use Rattle.plan_records.specs.declared.PlanRow.{PlanRow}
use Rattle.plan_records.specs.declared.PlanRow.TheVariants as row
use Rattle.plan_records.specs.declared.OperationRow.{OperationRow}
use Rattle.plan_opening.specs.declared.restoring.said.Said.{Said}

-- what was planned of an operation
abbrev pub operation_item : OperationRow → OperationItem
operation_item r = record { key = r.op; workstation = r.ws; duration = r.duration; r1 = r.r1; r2 = r.r2; not_before = r.not_before; deadline = Some r.deadline }

-- ---- quantities and amounts

-- the quantity that a row says
abbrev pub as_quantity : PlanRow → Option (Name × ℕ)
as_quantity (row.Quantity r quantity) = Some (r, quantity)
as_quantity _ = None

-- the amount that a row says
abbrev pub as_amount : PlanRow → Option ((OpKey × Name) × ℕ)
as_amount (row.Amount o r amount) = Some ((o, r), amount)
as_amount _ = None

-- no quantity and no amount is said twice
pub record SayEachOnce (rows : List PlanRow) : Type 0 where
  pub quantities : AllPairs (λ x y. x.0 ≢ y.0) (filter_map as_quantity rows)
  pub amounts : AllPairs (λ x y. x.0 ≢ y.0) (filter_map as_amount rows)

-- these are the quantities and amounts that rows say, in order
pub record AreSaid (rows : List PlanRow) (said : Said) : Type 0 where
  pub quantities : AreInKeyOrder name_cmp (λ x. x.0) (filter_map as_quantity rows) said.quantities.items
  pub amounts : AreInKeyOrder need_cmp (λ x. x.0) (filter_map as_amount rows) said.amounts.items

-- how much there is of a special resource: the greatest quantity where none is said
abbrev pub quantity_by : List (Name × ℕ) → Name → ℕ
quantity_by said r = unwrap_or (get {R = name_cmp} (from_entries said) r) MOST_QUANTITY

-- how much a need is of: a shared one 1 where no amount is said
abbrev pub amount_by : List ((OpKey × Name) × ℕ) → OpKey → Name → Mode → ℕ
amount_by said o r Exclusive = 0
amount_by said o r Shared = unwrap_or (get {R = need_cmp} (from_entries said) (o, r)) 1

-- ---- items

-- a need that a row says
abbrev pub need_item : Said → OpKey → Name → Mode → Bool → Need
need_item said o r mode keep = record { name = r; mode = mode; amount = amount_by said.amounts.items o r mode; keep = keep }

-- what a row says as an item of a text, by these quantities and amounts; a text has no item for the plan itself, nor for a quantity or an amount alone
abbrev pub as_item : Said → PlanRow → Option Item
as_item said (row.Meta version loaded clock) = None
as_item said (row.Workstation name a) = Some (item.Workstation name a)
as_item said (row.Interval w i) = Some (item.Interval w i)
as_item said (row.Resource name available) = Some (item.Resource name available (quantity_by said.quantities.items name))
as_item said (row.Occurrence c priority deadline status) = Some (item.Occurrence c priority deadline)
as_item said (row.Operation r) = Some (item.Operation (operation_item r))
as_item said (row.Dependency p s) = Some (item.Dependency p s)
as_item said (row.Need o r mode keep) = Some (item.Need o (need_item said o r mode keep))
as_item said (row.Quantity r quantity) = None
as_item said (row.Amount o r amount) = None

-- the operation with what its row says was reported of it and commanded
abbrev pub with_report : OperationRow → Operation → Operation
with_report r op = record op { mark = r.mark; held = r.held; nop = r.nop }

-- the contents with what one row says of that
abbrev pub reported_by : PlanRow → Contents → Contents
reported_by (row.Operation r) P = revised (is_at r.op) (with_report r) P
reported_by _ P = P

-- the contents with what these rows say of that, one after the other
abbrev pub reported : List PlanRow → Contents → Contents
reported [] P = P
reported (r ∷ rows) P = reported rows (reported_by r P)
