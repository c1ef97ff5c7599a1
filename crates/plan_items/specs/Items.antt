-- What one record of a plan's text says: the ten fields of each kind of record, and the item that they spell.
use Rattle.std.specs.Prelude.{◌≡◌, ℕ, List, [], ◌∷◌, replicate, map, MatchOption, Vec, vec_items, codes, decimal}
use Rattle.std.specs.declared.alloc.Global.{Global}
use Rattle.plan_basics.specs.declared.limits.TheConstants.{MOST_FIXED, MOST_QUANTITY, SHORTEST_DURATION, LONGEST_DURATION, LOWEST_PRIORITY, HIGHEST_PRIORITY}
use Rattle.plan_basics.specs.Attributes.{attribute_letter}
use Rattle.plan_basics.specs.Names.{IsName, IsResourceName}
use Rattle.plan_basics.specs.Keys.{IsOccurrenceKey, IsOperationKey}
use Rattle.plan_basics.specs.Minutes.{IsMoment, IsMomentText}
use Rattle.plan_basics.specs.Intervals.{IsInterval}
use Rattle.special_resources.specs.Holders.{IsAmount}
use Rattle.plan_items.specs.Parts.{available_letter, mode_letter, keep_letter, IsWithin, IsMomentOrEmpty, IsNotBefore, IsQuantityText, IsAmountText}
use Rattle.plan_items.specs.declared.Item.{Item}
use Rattle.plan_items.specs.declared.Item.TheVariants as item
use Rattle.plan_items.specs.declared.OperationItem.{OperationItem}

-- the fields of one record, each a text
abbrev pub Fields : Type 0
Fields = List (List ℕ)

-- the texts of the fields, without where they lie in memory
abbrev pub fields_of : List (Vec ℕ Global) → Fields
fields_of fields = map vec_items fields

-- an operation's record with its parts in range
pub record IsOperationItem (o : OperationItem) : Type 0 where
  pub key : IsOperationKey o.key
  pub workstation : IsName 4 o.workstation
  pub duration : IsWithin SHORTEST_DURATION LONGEST_DURATION o.duration
  pub r1 : IsWithin 0 MOST_FIXED o.r1
  pub r2 : IsWithin 0 MOST_FIXED o.r2
  pub not_before : IsMoment o.not_before
  pub deadline : MatchOption o.deadline (Unit {0}) IsMoment

-- an item with its parts in range
abbrev pub IsItem : Item → Type 0
IsItem (item.Workstation name attribute) = IsName 4 name
IsItem (item.Interval workstation interval) = IsName 4 workstation × IsInterval interval
IsItem (item.Resource name available quantity) = IsResourceName name × IsWithin 1 MOST_QUANTITY quantity
IsItem (item.Occurrence key priority deadline) = IsOccurrenceKey key × IsWithin LOWEST_PRIORITY HIGHEST_PRIORITY priority × IsMoment deadline
IsItem (item.Operation operation) = IsOperationItem operation
IsItem (item.Dependency predecessor successor) = IsOperationKey predecessor × IsOperationKey successor
IsItem (item.Need operation need) = IsOperationKey operation × IsResourceName need.name × IsAmount need.mode need.amount

-- the ten fields of an item's record: its kind's letter, the texts of its parts, and empty fields after them
abbrev pub IsRecordOf : Item → Fields → Type 0
-- a workstation: its name and its attribute
IsRecordOf (item.Workstation name attribute) fields = fields ≡ codes "W" ∷ name ∷ (attribute_letter attribute ∷ []) ∷ replicate 7 []
-- an open interval: its workstation, first minute, end, servers and fixed resources
IsRecordOf (item.Interval workstation interval) fields = (from : List ℕ) × (end : List ℕ) × IsMomentText from interval.from × IsMomentText end interval.end
    × (fields ≡ codes "I" ∷ workstation ∷ from ∷ end ∷ decimal interval.servers ∷ decimal interval.r1 ∷ decimal interval.r2 ∷ replicate 3 [])
-- a special resource: its name, whether it is available, its quantity or empty
IsRecordOf (item.Resource name available quantity) fields = (text : List ℕ) × IsQuantityText text quantity
    × (fields ≡ codes "X" ∷ name ∷ available_letter available ∷ text ∷ replicate 6 [])
-- an occurrence: its application, input arrival, priority and deadline
IsRecordOf (item.Occurrence key priority deadline) fields = (arrival : List ℕ) × (last : List ℕ) × IsMomentText arrival key.arrival × IsMomentText last deadline
    × (fields ≡ codes "O" ∷ key.app ∷ arrival ∷ decimal priority ∷ last ∷ replicate 5 [])
-- an operation: its key, workstation, duration, fixed resources, not-before or empty, deadline or empty
IsRecordOf (item.Operation o) fields = (arrival : List ℕ) × (not_before : List ℕ) × (deadline : List ℕ)
    × IsMomentText arrival o.key.occurrence.arrival × IsNotBefore not_before o.not_before × IsMomentOrEmpty deadline o.deadline
    × (fields ≡ codes "P" ∷ o.key.occurrence.app ∷ arrival ∷ decimal o.key.number ∷ o.workstation ∷ decimal o.duration ∷ decimal o.r1 ∷ decimal o.r2 ∷ not_before ∷ deadline ∷ [])
-- a dependency: the key of the predecessor, then that of the successor
IsRecordOf (item.Dependency p s) fields = (arrival : List ℕ) × (later : List ℕ) × IsMomentText arrival p.occurrence.arrival × IsMomentText later s.occurrence.arrival
    × (fields ≡ codes "D" ∷ p.occurrence.app ∷ arrival ∷ decimal p.number ∷ s.occurrence.app ∷ later ∷ decimal s.number ∷ replicate 3 [])
-- a need of a special resource: the operation's key, the resource, the mode, whether an error keeps it, its amount or empty
IsRecordOf (item.Need o need) fields = (arrival : List ℕ) × (amount : List ℕ) × IsMomentText arrival o.occurrence.arrival × IsAmountText need.mode amount need.amount
    × (fields ≡ codes "N" ∷ o.occurrence.app ∷ arrival ∷ decimal o.number ∷ need.name ∷ mode_letter need.mode ∷ keep_letter need.keep ∷ amount ∷ replicate 2 [])

-- a record says an item: its fields are the item's, and the item's parts are in range
abbrev pub Says : Fields → Item → Type 0
Says fields item = IsItem item × IsRecordOf item fields

-- a record says one item at most
abbrev pub OneItem : Type 0
OneItem = (fields : Fields) (a b : Item) → Says fields a → Says fields b → a ≡ b
