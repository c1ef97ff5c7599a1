-- The tables' rows for a plan, and those that change from one plan to the next.
use Rattle.std.specs.Prelude.{◌≡◌, ◌≢◌, ◌↔◌, ℕ, List, length, map, Contains, AllPairs, Some}
use Rattle.std.specs.List.Sorted.{IsStrictlySortedBy}
use Rattle.std.specs.FinMap.{get}
use Rattle.plan_basics.specs.declared.keys.OpKey.{OpKey}
use Rattle.plan_basics.specs.declared.limits.TheConstants.{MOST_QUANTITY}
use Rattle.plan_basics.specs.Keys.{operation_cmp}
use Rattle.plan_drafts.specs.workstations.specs.Workstations.{Workstation}
use Rattle.plan_drafts.specs.special_resources.specs.Holders.{Usage}
use Rattle.plan_drafts.specs.special_resources.specs.declared.Mode.TheVariants.{Shared}
use Rattle.plan_drafts.specs.plan_model.specs.Plan.{Plan}
use Rattle.plan_drafts.specs.plan_model.specs.declared.Stock.{Stock}
use Rattle.plan_drafts.specs.plan_model.specs.Contents.{Contents, Operation, Has, HasAttribute, Precedes, LivePredecessor}
use Rattle.plan_drafts.specs.plan_model.specs.Status.{HasStatus, HasOccurrenceStatus, IsSatisfied}
use Rattle.plan_drafts.specs.plan_model.specs.Starts.{IsLatestStart}
use Rattle.plan_records.specs.declared.PlanRow.{PlanRow}
use Rattle.plan_records.specs.declared.PlanRow.TheVariants as row
use Rattle.plan_records.specs.declared.OperationRow.{OperationRow}
use Rattle.plan_drafts.specs.declared.RowKey.{RowKey}
use Rattle.plan_drafts.specs.declared.RowKey.TheVariants as key
pub use Rattle.plan_drafts.specs.RowKeys.{table_of, key_cmp, row_cmp}

-- the operations of which S holds are this many
abbrev pub IsCount : (OpKey → Type 0) → ℕ → Type 0
IsCount S n = (os : List OpKey) × IsStrictlySortedBy operation_cmp os × ((o : OpKey) → Contains os o ↔ S o) × (length os ≡ n)

-- how many live predecessors aren't satisfied
abbrev pub IsWaitingFor : Contents → OpKey → ℕ → Type 0
IsWaitingFor P o n = IsCount (λ p. LivePredecessor P p o × ¬ IsSatisfied P p) n

-- the row of one operation: its own columns, and what is read off the plan for it
pub record IsOperationRow (P : Contents) (r : OperationRow) : Type 0 where
  pub op : Operation
  pub is_in_plan : get P.operations r.op ≡ Some op
  pub columns :
      (r.ws ≡ op.workstation) × (r.duration ≡ op.duration) × (r.r1 ≡ op.r1) × (r.r2 ≡ op.r2)
      × (r.not_before ≡ op.not_before) × (r.deadline ≡ op.deadline) × (r.mark ≡ op.mark) × (r.held ≡ op.held) × (r.nop ≡ op.nop)
  pub status : HasStatus P r.op r.status
  pub latest : IsLatestStart P r.op r.latest
  pub waiting : IsWaitingFor P r.op r.waiting

-- a row of the tables for P
abbrev pub IsRow : Plan → PlanRow → Type 0
IsRow P (row.Meta version loaded clock) = (version ≡ 2) × (loaded ≡ P.loaded) × (clock ≡ P.clock)
IsRow P (row.Workstation name a) = HasAttribute P.contents name a
IsRow P (row.Interval w i) = (ws : Workstation) × (get P.contents.workstations w ≡ Some ws) × (get ws.intervals i.from ≡ Some i)
IsRow P (row.Resource name available) = (stock : Stock) × (get P.contents.resources name ≡ Some stock) × (stock.available ≡ available)
IsRow P (row.Occurrence c priority deadline status) = (get P.contents.occurrences c ≡ Some (record { priority = priority; deadline = deadline })) × HasOccurrenceStatus P.contents c status
IsRow P (row.Operation r) = IsOperationRow P.contents r
IsRow P (row.Dependency p s) = Precedes P.contents p s
IsRow P (row.Need o r mode keep) = Has P.contents o (λ op. (usage : Usage) × (get op.needs r ≡ Some usage) × (usage.claim.mode ≡ mode) × (usage.keep ≡ keep))
-- where it isn't the greatest, which isn't written
IsRow P (row.Quantity r quantity) = (stock : Stock) × (get P.contents.resources r ≡ Some stock) × (stock.quantity ≡ quantity) × (quantity ≢ MOST_QUANTITY)
-- of a shared need, where it isn't 1, which isn't written
IsRow P (row.Amount o r amount) = Has P.contents o (λ op. (usage : Usage) × (get op.needs r ≡ Some usage) × (usage.claim ≡ record { mode = Shared; amount = amount }) × (amount ≢ 1))

-- a row of P, where the row of meta names the first version: what the nine tables of that version hold are such rows
abbrev pub IsFirstRow : Plan → PlanRow → Type 0
IsFirstRow P (row.Meta version loaded clock) = (version ≡ 1) × (loaded ≡ P.loaded) × (clock ≡ P.clock)
IsFirstRow P r = IsRow P r

-- the key columns of a row
abbrev pub key_of : PlanRow → RowKey
key_of (row.Meta version loaded clock) = key.Meta
key_of (row.Workstation name a) = key.Workstation name
key_of (row.Interval w i) = key.Interval w i.from
key_of (row.Resource name available) = key.Resource name
key_of (row.Occurrence c priority deadline status) = key.Occurrence c
key_of (row.Operation r) = key.Operation r.op
key_of (row.Dependency p s) = key.Dependency p s
key_of (row.Need o r mode keep) = key.Need o r
key_of (row.Quantity r quantity) = key.Quantity r
key_of (row.Amount o r amount) = key.Amount o r

-- the tables for P have a row of this key
abbrev pub HasKey : Plan → RowKey → Type 0
HasKey P k = (r : PlanRow) × IsRow P r × (key_of r ≡ k)

-- the rows of Q that aren't rows of P, and the keys of P that Q hasn't, in order
pub record AreChanges (P Q : Plan) (rows : List PlanRow) (gone : List RowKey) : Type 0 where
  pub rows_ascend : IsStrictlySortedBy row_cmp (map key_of rows)
  pub has_rows : (r : PlanRow) → Contains rows r ↔ (IsRow Q r × ¬ IsRow P r)
  pub gone_ascend : IsStrictlySortedBy row_cmp gone
  pub has_gone : (k : RowKey) → Contains gone k ↔ (HasKey P k × ¬ HasKey Q k)

-- these are all rows of P, each once
pub record AreRows (P : Plan) (rows : List PlanRow) : Type 0 where
  pub has_all : (r : PlanRow) → Contains rows r ↔ IsRow P r
  pub once : AllPairs (λ a b. a ≢ b) rows
