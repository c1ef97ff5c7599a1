-- Where items are those of a plan, they can be loaded, kind by kind.
use Rattle.std.proofs.Common.{◌≡◌, ◌≢◌, refl, sym, subst, ap, ◌∙◌, arith, ℕ, ◌≤◌, true, List, map, length, All, Contains, Option, Some, None, option_map}
use Rattle.std.specs.Cmp.{nat_cmp_total, both_ways}
use Rattle.std.specs.FinMap.{get, contains_key, len, nat_cmp-IsAntisymmetric}
use Rattle.std.specs.FinSet as set
use Rattle.std.specs.Map.{keys_of}
use Rattle.plan_basics.specs.declared.limits.TheConstants.{MOST_OCCURRENCES, MOST_OPERATIONS, MOST_PAIRS, MOST_RESOURCES, MOST_WORKSTATIONS}
use Rattle.plan_basics.specs.declared.Attr.{Attr}
use Rattle.plan_basics.specs.declared.keys.OccKey.{OccKey}
use Rattle.plan_basics.specs.declared.keys.OpKey.{OpKey}
use Rattle.plan_basics.specs.Keys.{Name, name_cmp_total, name_cmp-IsAntisymmetric}
use Rattle.plan_basics.specs.Intervals.{OpenInterval}
use Rattle.plan_model.specs.workstations.specs.Workstations.{Workstation, IsWorkstation}
use Rattle.plan_items.specs.special_resources.specs.Holdings.{usage_of}
use Rattle.plan_model.specs.Contents.{Contents, IsPairOf, pair_cmp}
use Rattle.plan_model.specs.Valid.{IsAcyclic}
use Rattle.plan_model.specs.declared.Occurrence.{Occurrence}
use Rattle.plan_items.specs.declared.Item.{Item}
use Rattle.plan_items.specs.declared.OperationItem.{OperationItem}
use Rattle.plan_drafts.specs.declared.RowKey.TheVariants as key
use Rattle.plan_drafts.specs.Drafts.{IsDraft}
use Rattle.plan_drafts.specs.Records.{entered, StandsIn, IsItemOfPlan, AreItems}
use Rattle.plan_drafts.specs.PlanItems.{intervals_of, IsOpening, CanOpen, AreWorkstations, AreResources, Fits, AreOccurrenceRows, AreOperations, occurrence_of, IsNeedIn, AreNeeds, IsWithinStock, IsPairIn, ArePairs, CanBeLoaded, keys_said}
use Rattle.plan_drafts.proofs.Lists.{Differ, differ_map, length_map, in_map, from_map, all_by_members}
use Rattle.plan_drafts.proofs.Tables.{some_is, map_count, set_count, in_set, from_set}
use Rattle.plan_drafts.proofs.Needed.{mapped}
use Rattle.plan_drafts.proofs.Pairs.{pair_cmp_total, pair_cmp-IsAntisymmetric}
use Rattle.plan_drafts.proofs.Keyed.{in_own, from_own}
use Rattle.plan_denotation.proofs.OwnTimes.{opening_by}
use Rattle.plan_denotation.proofs.NeedsSaid.{own_apart}
use Rattle.plan_denotation.proofs.ItemKinds as kinds
use Rattle.plan_denotation.proofs.ItemKinds.{workstations_in, intervals_in, resources_in, occurrences_in, operations_in, needs_in, pairs_in, read_in, key_in, read_apart, read_distinct, read_stands, so_many}
use Rattle.plan_denotation.proofs.ItemsHeld.{Holds, held_by_plan, few_of, need_is, occurrence_in, occurrence_is, occurrences_count, operation_in, operation_is, operations_count, pair_is}
use Rattle.std.proofs.lemmas.Option.{same_Some, none-some}

module _ (P : Contents) (draft : IsDraft P) (items : List Item) (are : AreItems (StandsIn P) (IsItemOfPlan P) items) where
  held : Holds items (entered P)
  held = held_by_plan P draft items are

  -- ---- workstations
  workstation_is : (y : Name × Attr) → Contains (workstations_in items) y → (ws : Workstation) × (get P.workstations y.0 ≡ Some ws) × (ws.attribute ≡ y.1)
  workstation_is y has = mapped (λ ws. ws.attribute) (get P.workstations y.0) y.1 (read_stands kinds.workstations (StandsIn P) items are.stand y has)

  name_in : (w : Name) → contains_key P.workstations w ≡ true → Contains (keys_of (workstations_in items)) w
  name_in w e = key_in kinds.workstations items w (are.all (key.Workstation w) e)

  workstations_count : length (workstations_in items) ≡ len P.workstations
  workstations_count =
      so_many kinds.workstations name_cmp_total name_cmp-IsAntisymmetric items are.distinct P.workstations
      (λ y has. let ws = workstation_is y has in some_is (get P.workstations y.0) ws.0 ws.1) (λ w. are.all (key.Workstation w))

  interval_is : (y : Name × OpenInterval) → Contains (intervals_in items) y → (ws : Workstation) × (get P.workstations y.0 ≡ Some ws) × (get ws.intervals y.1.from ≡ Some y.1)
  interval_is y has = read_stands kinds.intervals (StandsIn P) items are.stand y has

  module _ (w : Name) (ws : Workstation) (there : get P.workstations w ≡ Some ws) where
    abbrev Own : List OpenInterval
    Own = intervals_of w (intervals_in items)

    abbrev Firsts : List ℕ
    Firsts = map (λ (x : OpenInterval). x.from) Own

    own_there : (x : OpenInterval) → Contains Own x → get ws.intervals x.from ≡ Some x
    own_there x has =
        let s = interval_is (w, x) (from_own name_cmp_total name_cmp-IsAntisymmetric (intervals_in items) w x has) in
        let one : s.0 ≡ ws = same_Some s.0 ws (sym s.1 ∙ there) in
        subst (λ (v : Workstation). get v.intervals x.from ≡ Some x) one s.2

    starts_apart : Differ (λ x y. x.from ≢ y.from) Own
    starts_apart = own_apart name_cmp_total name_cmp-IsAntisymmetric (λ (x : OpenInterval). x.from) w (intervals_in items) (read_apart kinds.intervals items are.distinct)

    first_there : (m : ℕ) → Contains Firsts m → contains_key ws.intervals m ≡ true
    first_there m has =
        let r = from_map (λ (x : OpenInterval). x.from) Own m has in
        subst (λ z. contains_key ws.intervals z ≡ true) r.2 (some_is (get ws.intervals r.0.from) r.0 (own_there r.0 r.1))

    first_in : (m : ℕ) → contains_key ws.intervals m ≡ true → Contains Firsts m
    first_in m e =
        let k = key_in kinds.intervals items (w, m) (are.all (key.Interval w m) (ws, there, e)) in
        let r = from_map kinds.interval_key (intervals_in items) (w, m) k in
        let has : Contains (intervals_in items) (w, r.0.1) = subst (λ n. Contains (intervals_in items) (n, r.0.1)) (ap (λ q. q.0) r.2) r.1 in
        subst (Contains Firsts) (ap (λ q. q.1) r.2) (in_map (λ (x : OpenInterval). x.from) Own r.0.1 (in_own name_cmp_total name_cmp-IsAntisymmetric (intervals_in items) w r.0.1 has))

    is_opening : IsOpening Own
    is_opening =
        let is : IsWorkstation ws = (draft.valid.workstations w ws there).1 in
        let count : length Firsts ≡ len ws.intervals = map_count nat_cmp_total nat_cmp-IsAntisymmetric Firsts ws.intervals (differ_map (λ (x : OpenInterval). x.from) (λ a b. a ≢ b) Own starts_apart) first_there first_in in
        let same : length Firsts ≡ length Own = length_map (λ (x : OpenInterval). x.from) Own in
        let most = is.few in
        opening_by ws is Own starts_apart own_there (omega (arith, count, same, most))

  are_workstations : AreWorkstations (workstations_in items) (intervals_in items)
  are_workstations = record {
    few = let most : len P.workstations ≤ MOST_WORKSTATIONS = draft.valid.limits.workstations in omega (arith, workstations_count);
    distinct = read_distinct kinds.workstations items are.distinct;
    opening = all_by_members (CanOpen (intervals_in items)) (workstations_in items) (λ y has. let ws = workstation_is y has in is_opening y.0 ws.0 ws.1);
    no_others = all_by_members (λ y. Contains (keys_of (workstations_in items)) y.0) (intervals_in items) (λ y has. let s = interval_is y has in name_in y.0 (some_is (get P.workstations y.0) s.0 s.1));
  }

  -- ---- special resources
  resource_in : (r : Name) → contains_key P.resources r ≡ true → Contains (keys_of (resources_in items)) r
  resource_in r e = key_in kinds.resources items r (are.all (key.Resource r) e)

  resources_count : length (resources_in items) ≡ len P.resources
  resources_count =
      so_many kinds.resources name_cmp_total name_cmp-IsAntisymmetric items are.distinct P.resources
      (λ y has. some_is (get P.resources y.0) y.1 (read_stands kinds.resources (StandsIn P) items are.stand y has)) (λ r. are.all (key.Resource r))

  are_resources : AreResources (resources_in items)
  are_resources = record {
    few = let most : len P.resources ≤ MOST_RESOURCES = draft.valid.limits.resources in omega (arith, resources_count);
    distinct = read_distinct kinds.resources items are.distinct;
  }

  amounts_fit : All (IsWithinStock (resources_in items)) (needs_in items)
  amounts_fit = all_by_members (IsWithinStock (resources_in items)) (needs_in items) (λ y has.
      let is = need_is held y has in
      record { within = λ stock said. draft.valid.amounts y.0 is.0 is.1 y.1.name (usage_of y.1) is.2 stock (read_stands kinds.resources (StandsIn P) items are.stand (y.1.name, stock) said) })

  -- ---- occurrences, operations, needs and pairs
  are_occurrences : AreOccurrenceRows (occurrences_in items)
  are_occurrences = record {
    few = let most : len P.occurrences ≤ MOST_OCCURRENCES = draft.valid.limits.occurrences in omega (arith, occurrences_count held);
    distinct = read_distinct kinds.occurrences items are.distinct;
  }

  are_needs : AreNeeds (keys_said (operations_in items)) (keys_of (resources_in items)) (needs_in items)
  are_needs = record {
    within = all_by_members (IsNeedIn (keys_said (operations_in items)) (keys_of (resources_in items))) (needs_in items) (λ y has.
        let is = need_is held y has in
        record {
          operation = operation_in held y.0 (some_is (get P.operations y.0) is.0 is.1);
          resource = resource_in y.1.name (draft.valid.have_resources y.0 is.0 is.1 y.1.name (usage_of y.1) is.2);
        });
    distinct = read_distinct kinds.needs items are.distinct;
  }

  fits : (y : OperationItem) → Contains (operations_in items) y → Fits (keys_of (workstations_in items)) (occurrences_in items) (needs_in items) y
  fits y has =
      let is = operation_is held y has in
      record {
        workstation = subst (Contains (keys_of (workstations_in items))) is.4.workstation (name_in is.0.workstation (draft.valid.have_workstations y.key is.0 is.2));
        occurrence = occurrence_in held y.key.occurrence (some_is (get P.occurrences y.key.occurrence) is.1 is.3);
        few_needs = few_of held y.key is.0 is.2;
      }

  has_operation : (y : OccKey × Occurrence) → Contains (occurrences_in items) y → Contains (map occurrence_of (keys_said (operations_in items))) y.0
  has_operation y has =
      let o = draft.valid.occurrences.not_empty y.0 (some_is (get P.occurrences y.0) y.1 (occurrence_is held y has)) in
      subst (Contains (map occurrence_of (keys_said (operations_in items)))) o.1 (in_map occurrence_of (keys_said (operations_in items)) o.0 (operation_in held o.0 o.2))

  are_operations : AreOperations (keys_of (workstations_in items)) (occurrences_in items) (needs_in items) (operations_in items)
  are_operations = record {
    few = let most : len P.operations ≤ MOST_OPERATIONS = draft.valid.limits.operations in omega (arith, operations_count held);
    fit = all_by_members (Fits (keys_of (workstations_in items)) (occurrences_in items) (needs_in items)) (operations_in items) fits;
    distinct = read_distinct kinds.operations items are.distinct;
    not_empty = all_by_members (λ y. Contains (map occurrence_of (keys_said (operations_in items))) y.0) (occurrences_in items) has_operation;
  }

  pair_in : (y : OpKey × OpKey) → IsPairOf P.pairs y.0 y.1 → Contains (pairs_in items) y
  pair_in y e = let r = read_in kinds.pairs items y (are.all (key.Dependency y.0 y.1) e) in subst (Contains (pairs_in items)) r.2 r.1

  pairs_same : set.from_list {R = pair_cmp} (pairs_in items) ≡ P.pairs
  pairs_same =
      set.same_set pair_cmp_total pair_cmp-IsAntisymmetric (set.from_list (pairs_in items)) P.pairs (λ q. both_ways (set.contains (set.from_list {R = pair_cmp} (pairs_in items)) q) (set.contains P.pairs q)
      (λ e. pair_is held q (from_set pair_cmp_total pair_cmp-IsAntisymmetric (pairs_in items) q e)) (λ e. in_set pair_cmp_total pair_cmp-IsAntisymmetric (pairs_in items) q (pair_in q e)))

  are_pairs : ArePairs (keys_said (operations_in items)) (pairs_in items)
  are_pairs = record {
    few = let most : set.len P.pairs ≤ MOST_PAIRS = draft.valid.limits.pairs in omega (arith, set_count pair_cmp_total pair_cmp-IsAntisymmetric (pairs_in items) P.pairs (read_apart kinds.pairs items are.distinct) (pair_is held) pair_in);
    within = all_by_members (IsPairIn (keys_said (operations_in items))) (pairs_in items) (λ y has.
        let ends = draft.valid.pairs y.0 y.1 (pair_is held y has) in
        record { first = operation_in held y.0 ends.0; second = operation_in held y.1 ends.1 });
    distinct = read_distinct kinds.pairs items are.distinct;
    acyclic = subst IsAcyclic (sym pairs_same) draft.valid.acyclic;
  }

  pub needed : CanBeLoaded items
  needed = record { workstations = are_workstations; resources = are_resources; occurrences = are_occurrences; operations = are_operations; needs = are_needs; amounts = amounts_fit; pairs = are_pairs }
