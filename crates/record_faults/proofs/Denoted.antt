-- Records that denote a plan have no fault.
use Rattle.std.proofs.Common.{◌≡◌, ◌≢◌, ◌↔◌, inl, inr, refl, sym, ap, ap₂, subst, ◌∙◌, arith, ℕ, zero, suc, ◌+◌, ◌<◌, ◌≤◌, List, [], ◌∷◌, ◌++◌, length, map, take, get_or, slice_get, Contains, Bool, IsTrue, Option, Some, None, Result, Ok, Err, IfOk}
use Rattle.std.specs.List.{AllZip}
use Rattle.std.specs.Map.{keys_of}
use Rattle.std.specs.Option.{option_and_then}
use Rattle.std.proofs.lemmas.Option.{none-some, same_Some, slice_get_within, get_or_from_slice_get}
use Rattle.std.proofs.lemmas.List.Elements.{All-contains}
use Rattle.plan_basics.proofs.Members.{at_place, place_of}
use Rattle.plan_basics.specs.Intervals.{OpenInterval}
use Rattle.plan_basics.specs.Keys.{Name, name_cmp_total, name_cmp-IsAntisymmetric}
use Rattle.plan_basics.specs.declared.limits.TheConstants.{MOST_NEEDS}
use Rattle.plan_basics.specs.declared.keys.OccKey.{OccKey}
use Rattle.std.specs.FinMap.{get, len}
use Rattle.workstations.specs.Workstations.{Workstation}
use Rattle.plan_basics.specs.declared.keys.OpKey.{OpKey}
use Rattle.plan_items.specs.declared.Item.{Item}
use Rattle.plan_items.specs.declared.Item.TheVariants as item
use Rattle.plan_items.specs.declared.OperationItem.{OperationItem}
use Rattle.plan_items.specs.Items.{Fields, Says}
use Rattle.plan_items.proofs.ItemLaws.{one_item}
use Rattle.plan_model.specs.Contents.{Contents}
use Rattle.plan_drafts.specs.declared.RowKey.{RowKey}
use Rattle.plan_drafts.specs.declared.RowKey.TheVariants as key
use Rattle.plan_drafts.specs.Records.{key_of, StandsIn, AreItemsOf}
use Rattle.plan_drafts.specs.PlanItems.{CanBeLoaded, Fits, IsNeedIn, IsWithinStock, IsPairIn, keys_said, needs_of, occurrence_of}
use Rattle.plan_drafts.proofs.Lists.{in_filter, from_map}
use Rattle.plan_drafts.proofs.Needed.{mapped}
use Rattle.plan_denotation.proofs.Needed.{needed}
use Rattle.plan_denotation.proofs.ItemsHeld.{held_by_plan, occurrences_count}
use Rattle.plan_drafts.proofs.Tables.{some_is}
use Rattle.plan_denotation.proofs.Denoting.{are_denoted, denoted_items}
use Rattle.plan_denotation.proofs.ItemKinds as kinds
use Rattle.plan_denotation.proofs.ItemKinds.{workstations_in, intervals_in, resources_in, occurrences_in, operations_in, pairs_in, needs_in, key_out, of_kind, read_in, read_stands, so_many}
use Rattle.plan_drafts.specs.PlanItems.{as_interval, as_operation, as_pair, as_need, as_resource}
use Rattle.record_faults.specs.declared.faults.Fault.{Fault}
use Rattle.record_faults.specs.declared.faults.Fault.TheVariants as fault
use Rattle.record_faults.specs.declared.names.Naming.{Naming}
use Rattle.record_faults.specs.declared.names.Naming.TheVariants.{First, Second}
use Rattle.record_faults.specs.Sayings.{Sayings, AreSayings, SaysAt, given, owner_of, owned, IsGiven}
use Rattle.record_faults.specs.declared.groups.Group.{Group}
use Rattle.record_faults.specs.declared.groups.Group.TheVariants as group
use Rattle.record_faults.specs.Groups.{group_of, most_of, count_of}
use Rattle.record_faults.specs.Faults.{name_of, IsSilent, IsRepetition, interval_said, IsOverlap, IsUndefined, IsUnused, IsCrowd, IsBeyondStock, IsMissing, IsOwnFault, IsFaultAt, DenoteSome}
use Rattle.record_faults.specs.Plans.{MakeSome, SaySome}
use Rattle.record_faults.proofs.PlanIntervals.{opening_in_plan, apart_in_plan}
use Rattle.record_faults.proofs.Limits.{groups_in, count_workstations, count_intervals, count_resources, count_occurrences, count_operations, count_pairs, count_needs}

-- ---- records that all say something
-- records that say these items say nothing else
pub all_said : (records : List Fields) (said : Sayings) (items : List Item) → AreSayings records said → AllZip Says records items → said ≡ map Some items
all_said [] [] [] h k = refl
all_said [] [] (x ∷ xs) h k = absurd k
all_said [] (s ∷ said) items h k = absurd h
all_said (r ∷ rs) [] items h k = absurd h
all_said (r ∷ rs) (s ∷ said) [] h k = absurd k
all_said (r ∷ rs) (None ∷ said) (x ∷ xs) h k = absurd (h.0 x k.0)
all_said (r ∷ rs) (Some y ∷ said) (x ∷ xs) h k = ap₂ (λ z zs. z ∷ zs) (ap Some (one_item r y x h.0 k.0)) (all_said rs said xs h.1 k.1)

-- and the way back
pub said_all : (records : List Fields) (items : List Item) → AreSayings records (map Some items) → AllZip Says records items
said_all [] [] h = tt
said_all [] (x ∷ xs) h = absurd h
said_all (r ∷ rs) [] h = absurd h
said_all (r ∷ rs) (x ∷ xs) h = (h.0, said_all rs xs h.1)

-- the same items are said by the same sayings
pub same_items : (xs ys : List Item) → ◌≡◌ {A = List (Option Item)} (map Some xs) (map Some ys) → xs ≡ ys
same_items [] [] e = refl
same_items [] (y ∷ ys) e = cc
same_items (x ∷ xs) [] e = cc
same_items (x ∷ xs) (y ∷ ys) e =
    let first : ◌≡◌ {A = Option Item} (Some x) (Some y) = cc in
    let rest : ◌≡◌ {A = List (Option Item)} (map Some xs) (map Some ys) = cc in
    ap₂ (λ z zs. z ∷ zs) (same_Some x y first) (same_items xs ys rest)

-- one more item, of a record that says one
items_next : (said : Sayings) (items : List Item) (i : ℕ) (o : Option Item) (x : Item) → i < length said → o ≡ get_or said i o → o ≡ Some x → take i said ≡ map Some items → take (suc i) said ≡ map Some (items ++ x ∷ [])
items_next [] items i o x lt is e h = absurd (omega arith)
items_next (s ∷ said) [] zero o x lt is e h = ap (λ z. z ∷ []) (sym is ∙ e)
items_next (s ∷ said) (y ∷ ys) zero o x lt is e h = cc
items_next (s ∷ said) [] (suc i) o x lt is e h = cc
items_next (s ∷ said) (y ∷ ys) (suc i) o x lt is e h =
    let first : s ≡ Some y = cc in
    let rest : ◌≡◌ {A = List (Option Item)} (take i said) (map Some ys) = cc in
    ap₂ (λ z zs. z ∷ zs) first (items_next said ys i o x (omega arith) is e rest)

pub items_more : (said : Sayings) (items : List Item) (i : ℕ) (o : Option Item) (x : Item) → i < length said → o ≡ get_or said i o → o ≡ Some x → take i said ≡ map Some items → take (i + 1) said ≡ map Some (items ++ x ∷ [])
items_more said items i o x lt is e h = let next : suc i ≡ i + 1 = omega arith in subst (λ n. take n said ≡ map Some (items ++ x ∷ [])) next (items_next said items i o x lt is e h)

-- ---- places of items
-- the item at a place that says an interval
item_of_interval : (x : Item) (y : Name × OpenInterval) → as_interval x ≡ Some y → x ≡ item.Interval y.0 y.1
item_of_interval (item.Interval w i) y e = ap (λ (q : Name × OpenInterval). item.Interval q.0 q.1) (same_Some (w, i) y e)
item_of_interval x y e = absurd (none-some y e)

read_interval : (items : List Item) (i : ℕ) (y : Name × OpenInterval) → interval_said (get_or {A = Option Item} (map Some items) i None) ≡ Some y → (slice_get items i ≡ Some (item.Interval y.0 y.1)) × ((d : Item) → get_or items i d ≡ item.Interval y.0 y.1)
read_interval [] i y e = absurd (none-some y e)
read_interval (x ∷ xs) zero y e = let is = item_of_interval x y e in (ap Some is, λ d. is)
read_interval (x ∷ xs) (suc i) y e = read_interval xs i y e

grouped_get : (items : List Item) (place : ℕ) (g : Group) → IsGiven (groups_in items) g place → (x : Item) × (slice_get items place ≡ Some x) × (group_of x ≡ g)
grouped_get [] place g e = absurd (none-some (Some g) e)
grouped_get (y ∷ ys) zero g e = (y, refl, same_Some (group_of y) g (same_Some (Some (group_of y)) (Some g) e))
grouped_get (y ∷ ys) (suc place) g e = grouped_get ys place g e

pub no_gap : (items : List Item) (place : ℕ) → slice_get {X = Option Item} (map Some items) place ≢ Some None
no_gap [] place e = cc
no_gap (x ∷ xs) zero e = cc
no_gap (x ∷ xs) (suc place) e = no_gap xs place e

says_get : (items : List Item) (place : ℕ) (x : Item) → SaysAt (map Some items) place x → slice_get items place ≡ Some x
says_get [] place x e = cc
says_get (y ∷ ys) zero x e = same_Some (Some y) (Some x) e
says_get (y ∷ ys) (suc place) x e = says_get ys place x e

pub says_put : (items : List Item) (place : ℕ) (x : Item) → slice_get items place ≡ Some x → SaysAt (map Some items) place x
says_put [] place x e = absurd (none-some x e)
says_put (y ∷ ys) zero x e = ap Some e
says_put (y ∷ ys) (suc place) x e = says_put ys place x e

pub given_get : (items : List Item) (place : ℕ) (k : RowKey) → IsGiven (given (map Some items)) k place → (x : Item) × (slice_get items place ≡ Some x) × (key_of x ≡ k)
given_get [] place k e = absurd (none-some (Some k) e)
given_get (y ∷ ys) zero k e = (y, refl, same_Some (key_of y) k (same_Some (Some (key_of y)) (Some k) e))
given_get (y ∷ ys) (suc place) k e = given_get ys place k e

pub given_put : (items : List Item) (place : ℕ) (x : Item) → slice_get items place ≡ Some x → IsGiven (given (map Some items)) (key_of x) place
given_put [] place x e = absurd (none-some x e)
given_put (y ∷ ys) zero x e = ap (λ z. Some (Some (key_of z))) (same_Some y x e)
given_put (y ∷ ys) (suc place) x e = given_put ys place x e

owned_put : (items : List Item) (place : ℕ) (x : Item) (k : RowKey) → slice_get items place ≡ Some x → owner_of x ≡ Some k → IsGiven (owned (map Some items)) k place
owned_put [] place x k e o = absurd (none-some x e)
owned_put (y ∷ ys) zero x k e o = ap (λ z. Some (owner_of z)) (same_Some y x e) ∙ ap Some o
owned_put (y ∷ ys) (suc place) x k e o = owned_put ys place x k e o

-- what is read of what a place says is read of the item there
read_said : {Y : Type 0} (read : Item → Option Y) (items : List Item) (place : ℕ) (y : Y) → option_and_then read (get_or {A = Option Item} (map Some items) place None) ≡ Some y → (x : Item) × (slice_get items place ≡ Some x) × (read x ≡ Some y)
read_said read [] place y e = absurd (none-some y e)
read_said read (x ∷ xs) zero y e = (x, refl, e)
read_said read (x ∷ xs) (suc place) y e = read_said read xs place y e

owner_by_key : (x : Item) (k : OpKey) → key_of x ≡ key.Operation k → owner_of x ≡ Some (key.Occurrence k.occurrence)
owner_by_key (item.Operation o) k e = let same : o.key ≡ k = cc in ap (λ (z : OpKey). Some (key.Occurrence z.occurrence)) same
owner_by_key x k e = absurd (cc)

-- ---- the items of a plan
module _ (items : List Item) (P : Contents) (are : AreItemsOf items P) where
  can : CanBeLoaded items
  can = needed P are.draft items are.are

  abbrev Defined : RowKey → Type 0
  Defined k = (y : Item) × Contains items y × (key_of y ≡ k)

  workstation_defined : (w : List ℕ) → Contains (keys_of (workstations_in items)) w → Defined (key.Workstation w)
  workstation_defined w has = key_out kinds.workstations items w has

  operation_defined : (o : OpKey) → Contains (keys_said (operations_in items)) o → Defined (key.Operation o)
  operation_defined o has = key_out kinds.operations items o has

  fits : (o : OperationItem) → Contains items (item.Operation o) → Fits (keys_of (workstations_in items)) (occurrences_in items) (needs_in items) o
  fits o has = All-contains (Fits (keys_of (workstations_in items)) (occurrences_in items) (needs_in items)) (operations_in items) o can.operations.fit (in_filter as_operation items (item.Operation o) o has refl)

  pair_fits : (p s : OpKey) → Contains items (item.Dependency p s) → IsPairIn (keys_said (operations_in items)) (p, s)
  pair_fits p s has = All-contains (IsPairIn (keys_said (operations_in items))) (pairs_in items) (p, s) can.pairs.within (in_filter as_pair items (item.Dependency p s) (p, s) has refl)

  first_defined : (x : Item) (k : RowKey) → Contains items x → name_of First x ≡ Some k → Defined k
  first_defined (item.Interval w i) k has e = subst Defined (same_Some (key.Workstation w) k e) (workstation_defined w (All-contains (λ y. Contains (keys_of (workstations_in items)) y.0) (intervals_in items) (w, i) can.workstations.no_others (in_filter as_interval items (item.Interval w i) (w, i) has refl)))
  first_defined (item.Operation o) k has e = subst Defined (same_Some (key.Workstation o.workstation) k e) (workstation_defined o.workstation (fits o has).workstation)
  first_defined (item.Dependency p s) k has e = subst Defined (same_Some (key.Operation p) k e) (operation_defined p (pair_fits p s has).first)
  first_defined (item.Need o n) k has e = subst Defined (same_Some (key.Operation o) k e) (operation_defined o (All-contains (IsNeedIn (keys_said (operations_in items)) (keys_of (resources_in items))) (needs_in items) (o, n) can.needs.within (in_filter as_need items (item.Need o n) (o, n) has refl)).operation)
  first_defined x k has e = absurd (none-some k e)

  second_defined : (x : Item) (k : RowKey) → Contains items x → name_of Second x ≡ Some k → Defined k
  second_defined (item.Operation o) k has e = subst Defined (same_Some (key.Occurrence o.key.occurrence) k e) (key_out kinds.occurrences items o.key.occurrence (fits o has).occurrence)
  second_defined (item.Dependency p s) k has e = subst Defined (same_Some (key.Operation s) k e) (operation_defined s (pair_fits p s has).second)
  second_defined (item.Need o n) k has e = subst Defined (same_Some (key.Resource n.name) k e) (key_out kinds.resources items n.name (All-contains (IsNeedIn (keys_said (operations_in items)) (keys_of (resources_in items))) (needs_in items) (o, n) can.needs.within (in_filter as_need items (item.Need o n) (o, n) has refl)).resource)
  second_defined x k has e = absurd (none-some k e)

  all_defined : (naming : Naming) (x : Item) (k : RowKey) → Contains items x → name_of naming x ≡ Some k → Defined k
  all_defined First = first_defined
  all_defined Second = second_defined

  -- an occurrence that is said has an operation
  has_operation : (c : OccKey) → Defined (key.Occurrence c) → (y : Item) × Contains items y × (owner_of y ≡ Some (key.Occurrence c))
  has_operation c there =
      let row = read_in kinds.occurrences items c there in
      let some = All-contains (λ y. Contains (map occurrence_of (keys_said (operations_in items))) y.0) (occurrences_in items) row.0 can.operations.not_empty row.1 in
      let o = from_map occurrence_of (keys_said (operations_in items)) row.0.0 some in
      let y = operation_defined o.0 o.1 in
      (y.0, y.1, owner_by_key y.0 o.0 y.2 ∙ ap (λ z. Some (key.Occurrence z)) (o.2 ∙ row.2))

  -- ---- so there is no fault
  abbrev Said : Sayings
  Said = map Some items

  never_silent : (records : List Fields) (place : ℕ) (f : Fault) → ¬ IsSilent records Said place f
  never_silent records place (fault.Shape s) h = no_gap items place h.2
  never_silent records place _ h = h

  never_repeated : (place : ℕ) (f : Fault) → ¬ IsRepetition Said place f
  never_repeated place (fault.Repeated k first) h =
      let x = given_get items place k h.0 in
      let y = given_get items first k h.1.here in
      let lt = h.2 in
      are.are.distinct first place x.0 lt (slice_get_within items place x.0 x.1)
      (ap key_of (get_or_from_slice_get items first y.0 x.0 y.1) ∙ y.2 ∙ sym x.2 ∙ sym (ap key_of (get_or_from_slice_get items place x.0 x.0 x.1)))
  never_repeated place _ h = h

  never_undefined : (naming : Naming) (place : ℕ) (f : Fault) → ¬ IsUndefined naming Said place f
  never_undefined naming place (fault.Undefined k) h =
      let y = all_defined naming h.0 k (at_place items place h.0 (says_get items place h.0 h.1)) h.2 in
      let at = place_of items y.0 y.1 in
      h.3 at.0 (subst (λ z. IsGiven (given Said) z at.0) y.2 (given_put items at.0 y.0 at.1))
  never_undefined naming place _ h = h

  never_unused : (place : ℕ) (f : Fault) → ¬ IsUnused Said place f
  never_unused place fault.NoOperation h =
      let x = given_get items place (key.Occurrence h.0) h.1 in
      let y = has_operation h.0 (x.0, at_place items place x.0 x.1, x.2) in
      let at = place_of items y.0 y.1 in
      h.2 at.0 (owned_put items at.0 y.0 (key.Occurrence h.0) at.1 y.2)
  never_unused place _ h = h

  never_overlapping : (place : ℕ) (f : Fault) → ¬ IsOverlap Said place f
  never_overlapping place (fault.Overlaps other) h =
      let y = h.1.0 in
      let z = h.1.1 in
      let in_y = read_interval items other y h.1.2 in
      let in_z = read_interval items place z h.1.3 in
      let same : item.Interval z.0 z.1 ≡ item.Interval y.0 z.1 = ap (λ n. item.Interval n z.1) (sym h.1.4) in
      let has = All-contains (λ q. Contains (keys_of (workstations_in items)) q.0) (intervals_in items) y can.workstations.no_others (in_filter as_interval items (item.Interval y.0 y.1) y (at_place items other (item.Interval y.0 y.1) in_y.0) refl) in
      h.1.5 (apart_in_plan items can y.0 has other place (item.Interval y.0 y.1) y.1 z.1 h.0 (slice_get_within items place (item.Interval z.0 z.1) in_z.0) (in_y.1 (item.Interval y.0 y.1)) (in_z.1 (item.Interval y.0 y.1) ∙ same))
  never_overlapping place _ h = h

  -- no group has more than it may have: it is that of an item
  within_limit : (x : Item) → Contains items x → count_of (group_of x) (groups_in items) ≤ most_of (group_of x)
  within_limit (item.Workstation w a) has = let few = can.workstations.few in omega (arith, count_workstations items, few)
  within_limit (item.Interval w x) has =
      let named = All-contains (λ z. Contains (keys_of (workstations_in items)) z.0) (intervals_in items) (w, x) can.workstations.no_others (in_filter as_interval items (item.Interval w x) (w, x) has refl) in
      let few = (opening_in_plan items can w named).few in
      omega (arith, count_intervals w items, few)
  within_limit (item.Resource r a q) has = let few = can.resources.few in omega (arith, count_resources items, few)
  within_limit (item.Occurrence c p d) has = let few = can.occurrences.few in omega (arith, count_occurrences items, few)
  within_limit (item.Operation o) has = let few = can.operations.few in omega (arith, count_operations items, few)
  within_limit (item.Dependency p s) has = let few = can.pairs.few in omega (arith, count_pairs items, few)
  within_limit (item.Need o n) has =
      let within = All-contains (IsNeedIn (keys_said (operations_in items)) (keys_of (resources_in items))) (needs_in items) (o, n) can.needs.within (in_filter as_need items (item.Need o n) (o, n) has refl) in
      let row = from_map (λ (z : OperationItem). z.key) (operations_in items) o within.operation in
      let few = All-contains (Fits (keys_of (workstations_in items)) (occurrences_in items) (needs_in items)) (operations_in items) row.0 can.operations.fit row.1 in
      let le : length (needs_of o (needs_in items)) ≤ MOST_NEEDS = subst (λ z. length (needs_of z (needs_in items)) ≤ MOST_NEEDS) row.2 few.few_needs in
      omega (arith, count_needs o items, le)

  never_crowded : (place : ℕ) (f : Fault) → ¬ IsCrowd Said place f
  never_crowded place (fault.TooMany g count) h =
      let x = grouped_get items place g h.0.here in
      let le = subst (λ z. count_of z (groups_in items) ≤ most_of z) x.2 (within_limit x.0 (at_place items place x.0 x.1)) in
      let is = h.1 in
      let more = h.2 in
      omega (arith, le, is, more)
  never_crowded place _ h = h

  never_beyond : (place : ℕ) (f : Fault) → ¬ IsBeyondStock Said place f
  never_beyond place (fault.BeyondStock other) h =
      let y = read_said as_need items place h.0 h.2 in
      let z = read_said as_resource items other h.1 h.4 in
      let x = given_get items other (key.Resource h.0.1.name) h.3.here in
      let one : x.0 ≡ z.0 = same_Some x.0 z.0 (sym x.1 ∙ z.1) in
      let keys : key.Resource h.1.0 ≡ key.Resource h.0.1.name = sym (of_kind kinds.resources z.0 h.1 z.2).1 ∙ ap key_of (sym one) ∙ x.2 in
      let same : h.1.0 ≡ h.0.1.name = cc in
      let wanted = in_filter as_need items y.0 h.0 (at_place items place y.0 y.1) y.2 in
      let listed = in_filter as_resource items z.0 h.1 (at_place items other z.0 z.1) z.2 in
      let le = (All-contains (IsWithinStock (resources_in items)) (needs_in items) h.0 can.amounts wanted).within h.1.1 (subst (λ n. Contains (resources_in items) (n, h.1.1)) same listed) in
      let more = h.5 in
      omega (arith, le, more)
  never_beyond place _ h = h

  pub no_own_fault : (records : List Fields) (place : ℕ) (f : Fault) → ¬ IsOwnFault records Said place f
  no_own_fault records place f (inl h) = never_silent records place f h
  no_own_fault records place f (inr (inl h)) = never_repeated place f h
  no_own_fault records place f (inr (inr (inl h))) = never_overlapping place f h
  no_own_fault records place f (inr (inr (inr (inl h)))) = never_undefined First place f h
  no_own_fault records place f (inr (inr (inr (inr (inl h))))) = never_undefined Second place f h
  no_own_fault records place f (inr (inr (inr (inr (inr (inl h)))))) = never_unused place f h
  no_own_fault records place f (inr (inr (inr (inr (inr (inr (inl h))))))) = never_crowded place f h
  no_own_fault records place f (inr (inr (inr (inr (inr (inr (inr h))))))) = never_beyond place f h

  -- nor is there none of a group of which there are some
  never_missing : (g : Group) → 0 < count_of g (groups_in items) → (place : ℕ) (f : Fault) → ¬ IsMissing g Said place f
  never_missing g some place (fault.Missing k) h = let none = h.2 in omega (arith, some, none)
  never_missing g some place _ h = h

  -- a plan has as many workstations and occurrences as its items say
  pub workstations_count : length (workstations_in items) ≡ len P.workstations
  workstations_count =
      so_many kinds.workstations name_cmp_total name_cmp-IsAntisymmetric items are.are.distinct P.workstations
      (λ y has. let ws = mapped (λ (ws : Workstation). ws.attribute) (get P.workstations y.0) y.1 (read_stands kinds.workstations (StandsIn P) items are.are.stand y has) in some_is (get P.workstations y.0) ws.0 ws.1)
      (λ w. are.are.all (key.Workstation w))

  pub occurrences_there : length (occurrences_in items) ≡ len P.occurrences
  occurrences_there = occurrences_count (held_by_plan P are.draft items are.are)

  some_workstation : 0 < len P.workstations → 0 < count_of group.Workstations (groups_in items)
  some_workstation some = omega (arith, count_workstations items, workstations_count, some)

  some_occurrence : 0 < len P.occurrences → 0 < count_of group.Occurrences (groups_in items)
  some_occurrence some = omega (arith, count_occurrences items, occurrences_there, some)

  pub no_fault : 0 < len P.workstations → 0 < len P.occurrences → (records : List Fields) (place : ℕ) (f : Fault) → ¬ IsFaultAt records Said place f
  no_fault ws occ records place f (inl h) = no_own_fault records place f h
  no_fault ws occ records place f (inr (inl h)) = never_missing group.Workstations (some_workstation ws) place f h
  no_fault ws occ records place f (inr (inr h)) = never_missing group.Occurrences (some_occurrence occ) place f h

-- ---- records that denote a plan
module _ (records : List Fields) (said : Sayings) (are : AreSayings records said) where
  -- they say one, and the other way round
  pub say_denoted : SaySome said ↔ DenoteSome records
  say_denoted = (to, back)
    where
      to : SaySome said → DenoteSome records
      to (items, e, (P, is, ws, occ)) = (P, are_denoted records items (said_all records items (subst (AreSayings records) e are)) P is ws occ)

      back : DenoteSome records → SaySome said
      back (P, d) = (d.described.items, all_said records said d.described.items are d.described.said, (P, denoted_items records d.described.items d.described.said P d, d.some_workstation, d.some_occurrence))

  -- and no record has a fault
  pub denoted_no_fault : DenoteSome records → (place : ℕ) (f : Fault) → ¬ IsFaultAt records said place f
  denoted_no_fault some place f =
      let s = say_denoted.1 some in
      subst (λ z. ¬ IsFaultAt records z place f) (sym s.1) (no_fault s.0 s.2.0 s.2.1 s.2.2 s.2.3 records place f)

-- whether sayings say a plan, by the items that they say
pub say_of_items : {E : Type 0} (said : Sayings) (items : List Item) → said ≡ map Some items → (r : Result Bool E) → IfOk r (λ told. IsTrue told ↔ MakeSome items) → IfOk r (λ told. IsTrue told ↔ SaySome said)
say_of_items said items all (Ok told) h = (λ e. (items, all, h.0 e), λ s. h.1 (subst MakeSome (same_items s.0 items (sym s.1 ∙ all)) s.2))
say_of_items said items all (Err e) h = h
