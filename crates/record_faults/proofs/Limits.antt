-- How many items of a group there are, by what is read of them kind by kind.
use Rattle.std.proofs.Common.{◌≡◌, refl, ap, ◌∙◌, arith, ◌+◌, Bool, true, false, cond, List, [], ◌∷◌, length, map, Option, Some, None, is_some}
use Rattle.std.specs.List.{cons_option, filter_map}
use Rattle.std.specs.Option.{option_and_then}
use Rattle.std.specs.Ordering.{eq_by_cmp}
use Rattle.plan_basics.specs.declared.keys.OpKey.{OpKey}
use Rattle.plan_basics.specs.Keys.{Name, name_cmp, operation_cmp}
use Rattle.plan_items.specs.declared.Item.{Item}
use Rattle.plan_items.specs.declared.Item.TheVariants as item
use Rattle.plan_drafts.specs.PlanItems.{as_workstation, as_interval, as_resource, as_occurrence, as_operation, as_pair, as_need, own_interval, own_need, intervals_of, needs_of}
use Rattle.plan_denotation.proofs.ItemKinds.{workstations_in, intervals_in, resources_in, occurrences_in, operations_in, needs_in, pairs_in}
use Rattle.record_faults.specs.declared.groups.Group.{Group}
use Rattle.record_faults.specs.declared.groups.Group.TheVariants as group
use Rattle.record_faults.specs.Groups.{group_of, grouped, is_of, count_of}

-- the groups of items that are all said
abbrev pub groups_in : List Item → List (Option Group)
groups_in items = grouped (map Some items)

-- where an item is of the group exactly if something is read of it, there are as many of the group as are read
module _ {Y : Type 0} (read : Item → Option Y) (g : Group) (alike : (x : Item) → is_of g (Some (group_of x)) ≡ is_some (read x)) where
  counted : (items : List Item) → count_of g (groups_in items) ≡ length (filter_map read items)
  counted [] = refl
  counted (x ∷ items) = ap (λ b. cond b 1 0 + count_of g (groups_in items)) (alike x) ∙ step (read x) (counted items)
    where
      step : (o : Option Y) → count_of g (groups_in items) ≡ length (filter_map read items) → cond (is_some o) 1 0 + count_of g (groups_in items) ≡ length (cons_option o (filter_map read items))
      step None rest = omega (arith, rest)
      step (Some y) rest = omega (arith, rest)

-- so too where it is read of what is read
module _ {Y Z : Type 0} (read : Item → Option Y) (own : Y → Option Z) (g : Group) (alike : (x : Item) → is_of g (Some (group_of x)) ≡ is_some (option_and_then own (read x))) where
  counted_own : (items : List Item) → count_of g (groups_in items) ≡ length (filter_map own (filter_map read items))
  counted_own [] = refl
  counted_own (x ∷ items) = ap (λ b. cond b 1 0 + count_of g (groups_in items)) (alike x) ∙ step (read x) (counted_own items)
    where
      inner : (o : Option Z) → count_of g (groups_in items) ≡ length (filter_map own (filter_map read items)) → cond (is_some o) 1 0 + count_of g (groups_in items) ≡ length (cons_option o (filter_map own (filter_map read items)))
      inner None rest = omega (arith, rest)
      inner (Some z) rest = omega (arith, rest)

      step : (o : Option Y) → count_of g (groups_in items) ≡ length (filter_map own (filter_map read items)) → cond (is_some (option_and_then own o)) 1 0 + count_of g (groups_in items) ≡ length (filter_map own (cons_option o (filter_map read items)))
      step None rest = omega (arith, rest)
      step (Some y) rest = inner (own y) rest

-- ---- group by group
pub count_workstations : (items : List Item) → count_of group.Workstations (groups_in items) ≡ length (workstations_in items)
count_workstations = counted as_workstation group.Workstations (elim [ item.Workstation n a ↦ refl | _ ↦ refl ])

pub count_resources : (items : List Item) → count_of group.Resources (groups_in items) ≡ length (resources_in items)
count_resources = counted as_resource group.Resources (elim [ item.Resource n a q ↦ refl | _ ↦ refl ])

pub count_occurrences : (items : List Item) → count_of group.Occurrences (groups_in items) ≡ length (occurrences_in items)
count_occurrences = counted as_occurrence group.Occurrences (elim [ item.Occurrence c p d ↦ refl | _ ↦ refl ])

pub count_operations : (items : List Item) → count_of group.Operations (groups_in items) ≡ length (operations_in items)
count_operations = counted as_operation group.Operations (elim [ item.Operation o ↦ refl | _ ↦ refl ])

pub count_pairs : (items : List Item) → count_of group.Dependencies (groups_in items) ≡ length (pairs_in items)
count_pairs = counted as_pair group.Dependencies (elim [ item.Dependency p s ↦ refl | _ ↦ refl ])

-- what is chosen, or nothing, shows how it was chosen
chosen : {X : Type 0} (b : Bool) (x : X) → b ≡ is_some (cond b (Some x) None)
chosen true x = refl
chosen false x = refl

pub count_intervals : (w : Name) (items : List Item) → count_of (group.IntervalsOf w) (groups_in items) ≡ length (intervals_of w (intervals_in items))
count_intervals w = counted_own as_interval (own_interval w) (group.IntervalsOf w) (elim [ item.Interval v x ↦ chosen (eq_by_cmp name_cmp v w) x | _ ↦ refl ])

pub count_needs : (o : OpKey) (items : List Item) → count_of (group.NeedsOf o) (groups_in items) ≡ length (needs_of o (needs_in items))
count_needs o = counted_own as_need (own_need o) (group.NeedsOf o) (elim [ item.Need p n ↦ chosen (eq_by_cmp operation_cmp p o) n | _ ↦ refl ])
