-- A plan that keeps the operations of another.
use Rattle.std.specs.Prelude.{◌≡◌, ◌⊎◌, ◌↔◌, ℕ, List, Contains, Some, None, map, option_map, slice_get}
use Rattle.std.specs.FinMap.{get, keys}
use Rattle.std.specs.List.Sorted.{IsStrictlySortedBy}
use Rattle.std.specs.Ordering.{nat_cmp}
use Rattle.plan_basics.specs.declared.keys.OpKey.{OpKey}
use Rattle.status_rules.specs.declared.Mark.{Mark}
use Rattle.status_rules.specs.declared.Mark.TheVariants as mark
use Rattle.plan_records.specs.plan_drafts.specs.PlanItems.{need_cmp, need_key}
use Rattle.plan_model.specs.Contents.{Contents, Has, Operation}
use Rattle.plan_model.specs.Ready.{with_mark}
use Rattle.plan_rows.specs.declared.columns.SourceColumns.{SourceColumns}
use Rattle.special_resources.specs.Holdings.{usage_of}
use Rattle.special_resources.specs.declared.Need.{Need}

-- a mark stays, or becomes deleted, or named where there was none
abbrev pub MarkGoesOn : Mark → Mark → Type 0
MarkGoesOn before after = (after ≡ before) ⊎ ((after ≡ mark.Deleted) ⊎ ((before ≡ mark.Unmarked) × (after ≡ mark.Named)))

-- o is an operation of Q with this record but for its mark, which went on
abbrev pub IsKeptIn : Contents → OpKey → Operation → Type 0
IsKeptIn Q o op = (m : Mark) × (get Q.operations o ≡ Some (with_mark m op)) × MarkGoesOn op.mark m

-- each operation of P is kept in Q
-- (each request that works all out afresh leads to such a one, but an extension: so rows of what stays are told without a look,
-- since where the status stays the mark does)
abbrev pub KeepsRecords : Contents → Contents → Type 0
KeepsRecords P Q = (o : OpKey) (op : Operation) → get P.operations o ≡ Some op → IsKeptIn Q o op

-- the operation at j of Q isn't one of P
abbrev pub IsNewAt : Contents → Contents → ℕ → Type 0
IsNewAt P Q j = (o : OpKey) × (slice_get (keys Q.operations) j ≡ Some o) × (get P.operations o ≡ None)

-- these are the places of the operations of Q that P hasn't, in order
pub record AreNewPlaces (P Q : Contents) (places : List ℕ) : Type 0 where
  pub ascend : IsStrictlySortedBy nat_cmp places
  pub all : (j : ℕ) → Contains places j ↔ IsNewAt P Q j

-- these are the needs of the operations of Q that P hasn't, by operation and then resource
pub record AreNewNeeds (P Q : Contents) (needs : List (OpKey × Need)) : Type 0 where
  pub ascend : IsStrictlySortedBy need_cmp (map need_key needs)
  pub all : (o : OpKey) (need : Need) → Contains needs (o, need) ↔ ((get P.operations o ≡ None) × Has Q o (λ op. get op.needs need.name ≡ Some (usage_of need)))

-- what is known of the operation at i by the one columns and of that at j by the other: one status, one latest start, one number of waiting predecessors
pub record AreKnownAlike (c d : SourceColumns) (i j : ℕ) : Type 0 where
  pub status : slice_get c.statuses.now i ≡ slice_get d.statuses.now j
  pub start : slice_get c.latest.now.starts i ≡ slice_get d.latest.now.starts j
  pub waiting : option_map (λ s. s.waiting) (slice_get c.standings.now i) ≡ option_map (λ s. s.waiting) (slice_get d.standings.now j)
