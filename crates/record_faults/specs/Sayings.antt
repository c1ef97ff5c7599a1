-- What records say, place by place, and the keys that they give.
use Rattle.std.specs.Prelude.{◌≡◌, ℕ, ◌<◌, List, map, Option, Some, None, MatchOption, option_map, Vec, slice_get}
use Rattle.std.specs.List.{AllZip, filter_map}
use Rattle.std.specs.Option.{option_and_then}
use Rattle.std.specs.BTreeMap as tree
use Rattle.std.specs.BTreeMap.{BTreeMap}
use Rattle.std.specs.declared.alloc.Global.{Global}
use Rattle.plan_items.specs.declared.Item.{Item}
use Rattle.plan_items.specs.declared.Item.TheVariants as item
use Rattle.plan_items.specs.Items.{Fields, fields_of, Says}
use Rattle.plan_drafts.specs.declared.RowKey.{RowKey}
use Rattle.plan_drafts.specs.declared.RowKey.TheVariants as key
use Rattle.plan_drafts.specs.contracts.RowKeyOrd.TheImpl as derived
use Rattle.plan_drafts.specs.Records.{key_of}

-- the fields of records of any length, without where they lie in memory
abbrev pub texts_of : List (Vec (Vec ℕ Global) Global) → List Fields
texts_of records = map (λ (r : Vec (Vec ℕ Global) Global). fields_of r.items) records

-- an item for each record, or nothing where it says none
abbrev pub Sayings : Type 0
Sayings = List (Option Item)

-- the record says this; or, as nothing, it says nothing
abbrev pub SaysOrNot : Fields → Option Item → Type 0
SaysOrNot fields said = MatchOption said ((x : Item) → ¬ Says fields x) (Says fields)

-- what each of the records says
abbrev pub AreSayings : List Fields → Sayings → Type 0
AreSayings records said = AllZip SaysOrNot records said

-- the items that are said
abbrev pub items_of : Sayings → List Item
items_of said = filter_map (λ (o : Option Item). o) said

-- the record at the place says the item
abbrev pub SaysAt : Sayings → ℕ → Item → Type 0
SaysAt said place x = slice_get said place ≡ Some (Some x)

-- the key that each place gives, if it gives one
abbrev pub PlacedKeys : Type 0
PlacedKeys = List (Option RowKey)

-- the keys of the items that are said
abbrev pub given : Sayings → PlacedKeys
given said = map (λ o. option_map key_of o) said

-- the occurrence that an operation is of
abbrev pub owner_of : Item → Option RowKey
owner_of (item.Operation o) = Some (key.Occurrence o.key.occurrence)
owner_of _ = None

-- the occurrences of the operations that are said
abbrev pub owned : Sayings → PlacedKeys
owned said = map (λ o. option_and_then owner_of o) said

-- the place gives the key
abbrev pub IsGiven : {K : Type 0} → List (Option K) → K → ℕ → Type 0
IsGiven keys k place = slice_get keys place ≡ Some (Some k)

-- the place is the first that gives the key
pub record IsFirst {K : Type 0} (keys : List (Option K)) (k : K) (place : ℕ) : Type 0 where
  pub here : IsGiven keys k place
  pub none_before : (i : ℕ) → i < place → ¬ IsGiven keys k i

-- no place gives the key
abbrev pub IsNowhere : {K : Type 0} → List (Option K) → K → Type 0
IsNowhere keys k = (i : ℕ) → ¬ IsGiven keys k i

-- the place that a map has for a key
abbrev pub place_in : BTreeMap RowKey ℕ → RowKey → Option ℕ
place_in index k = tree.get derived.ghosts.cmp index k

-- of the places below this one, the map has for each key the first that gives it
pub record IsIndexBelow (keys : PlacedKeys) (n : ℕ) (index : BTreeMap RowKey ℕ) : Type 0 where
  pub found : (k : RowKey) (first : ℕ) → place_in index k ≡ Some first → (first < n) × IsFirst keys k first
  pub absent : (k : RowKey) → place_in index k ≡ None → (i : ℕ) → i < n → ¬ IsGiven keys k i

-- the map has for each key the first place that gives it
abbrev pub IsIndex : PlacedKeys → BTreeMap RowKey ℕ → Type 0
IsIndex keys index = (k : RowKey) → MatchOption (place_in index k) (IsNowhere keys k) (IsFirst keys k)
