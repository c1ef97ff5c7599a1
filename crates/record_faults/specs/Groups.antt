-- Records that are counted together, how many of them a plan may hold, and which is the last of a group before another.
use Rattle.std.specs.Prelude.{◌≡◌, ℕ, ◌+◌, ◌<◌, Bool, false, List, [], ◌∷◌, length, Option, Some, None, MatchOption, option_map, map, if◌then◌else◌, slice_index_or, unwrap_or}
use Rattle.std.specs.Ordering.{eq_by_cmp}
use Rattle.std.specs.BTreeMap as tree
use Rattle.std.specs.BTreeMap.{BTreeMap}
use Rattle.plan_basics.specs.declared.limits.TheConstants.{MOST_INTERVALS, MOST_NEEDS, MOST_OCCURRENCES, MOST_OPERATIONS, MOST_PAIRS, MOST_RESOURCES, MOST_WORKSTATIONS}
use Rattle.plan_items.specs.declared.Item.{Item}
use Rattle.plan_items.specs.declared.Item.TheVariants as item
use Rattle.record_faults.specs.Sayings.{Sayings, IsGiven}
use Rattle.record_faults.specs.declared.groups.Group.{Group}
use Rattle.record_faults.specs.declared.groups.Group.TheVariants as group
use Rattle.record_faults.specs.contracts.groups.GroupOrd.TheImpl as derived

-- the group of an item
abbrev pub group_of : Item → Group
group_of (item.Workstation w a) = group.Workstations
group_of (item.Interval w x) = group.IntervalsOf w
group_of (item.Resource r a q) = group.Resources
group_of (item.Occurrence c p d) = group.Occurrences
group_of (item.Operation o) = group.Operations
group_of (item.Dependency p s) = group.Dependencies
group_of (item.Need o n) = group.NeedsOf o

-- the groups of the items that are said, place by place
abbrev pub grouped : Sayings → List (Option Group)
grouped said = map (λ o. option_map group_of o) said

-- how many of a group a plan may hold
abbrev pub most_of : Group → ℕ
most_of group.Workstations = MOST_WORKSTATIONS
most_of (group.IntervalsOf w) = MOST_INTERVALS
most_of group.Resources = MOST_RESOURCES
most_of group.Occurrences = MOST_OCCURRENCES
most_of group.Operations = MOST_OPERATIONS
most_of group.Dependencies = MOST_PAIRS
most_of (group.NeedsOf o) = MOST_NEEDS

-- what is said is of the group
abbrev pub is_of : Group → Option Group → Bool
is_of g None = false
is_of g (Some other) = eq_by_cmp derived.ghosts.cmp other g

-- how many places are of the group
abbrev pub count_of : Group → List (Option Group) → ℕ
count_of g [] = 0
count_of g (o ∷ groups) = (if is_of g o then 1 else 0) + count_of g groups

-- what a map has for a group
abbrev pub kept_for : BTreeMap Group ℕ → Group → Option ℕ
kept_for index g = tree.get derived.ghosts.cmp index g

-- the map has for each group how many places are of it
abbrev pub AreCounts : List (Option Group) → BTreeMap Group ℕ → Type 0
AreCounts groups counts = (g : Group) → unwrap_or (kept_for counts g) 0 ≡ count_of g groups

-- of the places before n, p is the last of the group
pub record IsLast (groups : List (Option Group)) (n : ℕ) (g : Group) (p : ℕ) : Type 0 where
  pub here : IsGiven groups g p
  pub before : p < n
  pub none_after : (i : ℕ) → p < i → i < n → ¬ IsGiven groups g i

-- of the places before n, this is the last of the group, or none is of it
abbrev pub IsLastIfAny : List (Option Group) → ℕ → Group → Option ℕ → Type 0
IsLastIfAny groups n g last = MatchOption last ((i : ℕ) → i < n → ¬ IsGiven groups g i) (IsLast groups n g)

-- the map has for each group the last place before n that is of it
abbrev pub AreLast : List (Option Group) → ℕ → BTreeMap Group ℕ → Type 0
AreLast groups n latest = (g : Group) → IsLastIfAny groups n g (kept_for latest g)

-- for each place of a group, the last place before it that is of the same group
abbrev pub AreEarlier : List (Option Group) → List (Option ℕ) → Type 0
AreEarlier groups earlier = (i : ℕ) (g : Group) → IsGiven groups g i → IsLastIfAny groups i g (slice_index_or earlier i None)

-- so far as the places before n go, what the map and the list say is so
pub record AreLinked (groups : List (Option Group)) (n : ℕ) (latest : BTreeMap Group ℕ) (earlier : List (Option ℕ)) : Type 0 where
  pub size : length earlier ≡ n
  pub last : AreLast groups n latest
  pub links : (i : ℕ) (g : Group) → i < n → IsGiven groups g i → IsLastIfAny groups i g (slice_index_or earlier i None)
