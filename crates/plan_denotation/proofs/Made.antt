-- Rows of what items say are those of a draft, the plan of these items.
use Rattle.std.proofs.Common.{◌≡◌, ◌≢◌, refl, sym, subst, ap, ◌∙◌, true, List, map, length, All, Contains, Some, option_map, arith, ◌≤◌}
use Rattle.std.specs.List.{AllPairs}
use Rattle.std.specs.FinMap.{get, contains_key, len}
use Rattle.std.specs.FinSet as set
use Rattle.std.specs.Map.{keys_of}
use Rattle.std.proofs.lemmas.List.Elements.{All-contains, All-weaker}
use Rattle.std.proofs.lemmas.List.Sorted.{length_permutation}
use Rattle.plan_basics.specs.declared.limits.TheConstants.{MOST_OCCURRENCES, MOST_OPERATIONS, MOST_PAIRS, MOST_QUANTITY, MOST_RESOURCES, MOST_WORKSTATIONS}
use Rattle.plan_basics.specs.declared.Attr.{Attr}
use Rattle.plan_basics.specs.declared.keys.OpKey.{OpKey}
use Rattle.plan_basics.specs.Keys.{Name, name_cmp_total, name_cmp-IsAntisymmetric, occurrence_cmp_total, occurrence_cmp-IsAntisymmetric, operation_cmp_total, operation_cmp-IsAntisymmetric}
use Rattle.plan_basics.specs.Intervals.{OpenInterval}
use Rattle.plan_basics.specs.Names.{IsName, IsResourceName}
use Rattle.plan_model.specs.workstations.specs.Timetables.{NamedWorkstation}
use Rattle.plan_model.specs.workstations.specs.Workstations.{Workstation, IsWorkstation}
use Rattle.plan_items.specs.special_resources.specs.Holders.{Usage}
use Rattle.plan_items.specs.special_resources.specs.Needs.{usages_of}
use Rattle.plan_model.specs.Contents.{Contents, IsPairOf}
use Rattle.plan_model.specs.Valid.{IsValid, IsAcyclic, IsWithinLimits}
use Rattle.plan_model.specs.declared.Occurrence.{Occurrence}
use Rattle.plan_model.specs.declared.Stock.{Stock}
use Rattle.plan_items.specs.declared.Item.{Item}
use Rattle.plan_items.specs.declared.Item.TheVariants as item
use Rattle.plan_items.specs.declared.OperationItem.{OperationItem}
use Rattle.plan_items.specs.Items as items_of
use Rattle.plan_drafts.specs.declared.RowKey.{RowKey}
use Rattle.plan_drafts.specs.declared.RowKey.TheVariants as key
use Rattle.plan_drafts.specs.Contents.{Rows, held_by}
use Rattle.plan_drafts.specs.Drafts.{IsDraft}
use Rattle.plan_drafts.specs.Records.{key_of, StandsIn, IsItemOfPlan, AreItems}
use Rattle.plan_drafts.specs.PlanItems.{Fits, IsNeedIn, IsWithinStock, IsPairIn, IsOpening, CanOpen, intervals_of, opened_in, AreRowsOfItems, as_workstation, as_interval, as_resource, keys_said, needs_of, row_of, terms_of}
use Rattle.plan_drafts.specs.ExtensionItems.{IsNeedOf}
use Rattle.plan_drafts.proofs.Lists.{pairs_from_differ, in_map, from_map, in_filter, all_by_members, keys_permuted}
use Rattle.plan_drafts.proofs.Tables.{some_is, is_found, sorted_apart, len_set}
use Rattle.plan_drafts.proofs.Pairs.{pair_cmp_total, pair_cmp-IsAntisymmetric}
use Rattle.plan_denotation.proofs.NeedsSaid.{usage_said}
use Rattle.plan_denotation.proofs.Terms.{terms_there}
use Rattle.plan_drafts.proofs.Keyed.{in_own}
use Rattle.plan_denotation.proofs.InOrder.{same_pairs}
use Rattle.plan_denotation.proofs.OwnTimes.{AreLegal, own_legal, intervals_apart, got_by, opened_with, first_said}
use Rattle.plan_denotation.proofs.ItemKinds as kinds
use Rattle.plan_denotation.proofs.ItemKinds.{workstations_in, intervals_in, resources_in, occurrences_in, operations_in, pairs_in, needs_in, key_out, known_apart, read_stands}
use Rattle.plan_denotation.proofs.MadeParts as made_parts
use Rattle.plan_denotation.proofs.MadeParts.{AreParts, each_made, each_row, end_there, found_count, found_said, made_count, made_found, pair_from, said_found}

module _ (items : List Item) (c : Rows) (legal_items : All items_of.IsItem items) (made : AreRowsOfItems items c) where
  abbrev P : Contents
  P = held_by c

  -- the terms of an operation's occurrence
  abbrev terms_in : OperationItem → Occurrence
  terms_in said = terms_of c.occurrences said.key.occurrence

  legal : AreLegal (intervals_in items)
  legal y has = (read_stands kinds.intervals items_of.IsItem items legal_items y has).1

  distinct : AllPairs (λ a b. key_of a ≢ key_of b) items
  distinct =
      let said = made.items_are in
      let apart = pairs_from_differ (λ y z. kinds.interval_key y ≢ kinds.interval_key z) (intervals_in items) (intervals_apart (workstations_in items) (intervals_in items) legal said.workstations) in
      known_apart items said.workstations.distinct apart said.occurrences.distinct said.operations.distinct said.pairs.distinct said.resources.distinct said.needs.distinct

  -- ---- occurrences, operations, needs and pairs
  fits : (said : OperationItem) → Contains (operations_in items) said → Fits (keys_of (workstations_in items)) (occurrences_in items) (needs_in items) said
  fits said has = All-contains (Fits (keys_of (workstations_in items)) (occurrences_in items) (needs_in items)) (operations_in items) said made.items_are.operations.fit has

  -- the occurrence of an operation is there
  terms_at : (said : OperationItem) → Contains (operations_in items) said → get P.occurrences said.key.occurrence ≡ Some (terms_in said)
  terms_at said has = terms_there c.occurrences made.in_order.occurrences said.key.occurrence (keys_permuted (occurrences_in items) c.occurrences made.occurrences said.key.occurrence (fits said has).occurrence)

  parts : AreParts items terms_in P.occurrences c.operations c.pairs
  parts = record {
    legal = legal_items;
    occurrence_at = said_found occurrence_cmp_total occurrence_cmp-IsAntisymmetric (occurrences_in items) c.occurrences made.occurrences made.in_order.occurrences;
    occurrence_from = found_said occurrence_cmp_total occurrence_cmp-IsAntisymmetric (occurrences_in items) c.occurrences made.occurrences;
    terms_at = terms_at;
    not_empty = made.items_are.operations.not_empty;
    few_needs = λ said has. (fits said has).few_needs;
    needs = record {
      within = All-weaker (IsNeedIn (keys_said (operations_in items)) (keys_of (resources_in items))) (IsNeedOf (keys_said (operations_in items))) (λ said is. is.operation) (needs_in items) made.items_are.needs.within;
      distinct = made.items_are.needs.distinct;
    };
    operations = made.operations;
    in_order = made.in_order.operations;
    pairs = made.pairs;
  }

  -- ---- workstations
  -- the workstation that is said, open in its intervals
  abbrev opened : Name × Attr → NamedWorkstation
  opened = opened_in (intervals_in items)

  workstation_at : (row : Name × Attr) → Contains (workstations_in items) row → get P.workstations row.0 ≡ Some (opened row).1
  workstation_at = made_found name_cmp_total name_cmp-IsAntisymmetric opened (workstations_in items) c.workstations made.workstations made.in_order.workstations

  -- what is so of each workstation that the items say is so of each of the plan
  each_workstation : (Q : Name → Workstation → Type 0) → ((row : Name × Attr) → Contains (workstations_in items) row → Q row.0 (opened row).1) → (w : Name) (ws : Workstation) → get P.workstations w ≡ Some ws → Q w ws
  each_workstation = each_made name_cmp_total name_cmp-IsAntisymmetric opened (workstations_in items) c.workstations made.workstations

  -- a workstation that is said is there
  workstation_there : (w : Name) → Contains (keys_of (workstations_in items)) w → (row : Name × Attr) × Contains (workstations_in items) row × (row.0 ≡ w) × (get P.workstations w ≡ Some (opened row).1)
  workstation_there w has =
      let r = from_map (λ (row : Name × Attr). row.0) (workstations_in items) w has in
      (r.0, r.1, r.2, ap (get P.workstations) (sym r.2) ∙ workstation_at r.0 r.1)

  opening_of : (row : Name × Attr) → Contains (workstations_in items) row → IsOpening (intervals_of row.0 (intervals_in items))
  opening_of row has = All-contains (CanOpen (intervals_in items)) (workstations_in items) row made.items_are.workstations.opening has

  interval_at : (row : Name × Attr) → Contains (workstations_in items) row → (x : OpenInterval) → Contains (intervals_of row.0 (intervals_in items)) x → get (opened row).1.intervals x.from ≡ Some x
  interval_at row has x among = got_by (intervals_of row.0 (intervals_in items)) (own_legal (intervals_in items) row.0 legal) (opening_of row has) x among

  workstation_is : (row : Name × Attr) → Contains (workstations_in items) row → IsWorkstation (opened row).1
  workstation_is row has = opened_with (intervals_of row.0 (intervals_in items)) (own_legal (intervals_in items) row.0 legal) (opening_of row has) row.1

  -- ---- special resources
  resource_at : (row : Name × Stock) → Contains (resources_in items) row → get P.resources row.0 ≡ Some row.1
  resource_at = said_found name_cmp_total name_cmp-IsAntisymmetric (resources_in items) c.resources made.resources made.in_order.resources

  resource_from : (r : Name) (stock : Stock) → get P.resources r ≡ Some stock → Contains (resources_in items) (r, stock)
  resource_from = found_said name_cmp_total name_cmp-IsAntisymmetric (resources_in items) c.resources made.resources

  -- a special resource that an operation uses is there
  used_there : (o : OpKey) (r : Name) (usage : Usage) → get (usages_of (needs_of o (needs_in items))) r ≡ Some usage → contains_key P.resources r ≡ true
  used_there o r usage e =
      let n = usage_said (needs_in items) o r usage e in
      let within = All-contains (IsNeedIn (keys_said (operations_in items)) (keys_of (resources_in items))) (needs_in items) (o, n.0) made.items_are.needs.within n.1 in
      let row = from_map (λ (row : Name × Stock). row.0) (resources_in items) n.0.name within.resource in
      subst (λ z. contains_key P.resources z ≡ true) (row.2 ∙ n.2) (some_is (get P.resources row.0.0) row.0.1 (resource_at row.0 row.1))

  -- it uses no more than there is
  amount_within : (o : OpKey) (r : Name) (usage : Usage) → get (usages_of (needs_of o (needs_in items))) r ≡ Some usage → (stock : Stock) → get P.resources r ≡ Some stock → usage.claim.amount ≤ stock.quantity
  amount_within o r usage e stock there =
      let n = usage_said (needs_in items) o r usage e in
      let within = All-contains (IsWithinStock (resources_in items)) (needs_in items) (o, n.0) made.items_are.amounts n.1 in
      subst (λ (u : Usage). u.claim.amount ≤ stock.quantity) n.3 (within.within stock (subst (λ z. Contains (resources_in items) (z, stock)) (sym n.2) (resource_from r stock there)))

  -- ---- each item is in the plan
  stands : (i : Item) → Contains items i → StandsIn P i
  stands (item.Workstation n t) has = ap (option_map (λ (ws : Workstation). ws.attribute)) (workstation_at (n, t) (in_filter as_workstation items (item.Workstation n t) (n, t) has refl))
  stands (item.Interval n x) has =
      let said = in_filter as_interval items (item.Interval n x) (n, x) has refl in
      let there = workstation_there n (All-contains (λ (y : Name × OpenInterval). Contains (keys_of (workstations_in items)) y.0) (intervals_in items) (n, x) made.items_are.workstations.no_others said) in
      ((opened there.0).1, there.3, interval_at there.0 there.1 x (subst (λ w. Contains (intervals_of w (intervals_in items)) x) (sym there.2) (in_own name_cmp_total name_cmp-IsAntisymmetric (intervals_in items) n x said)))
  stands (item.Resource n a q) has = let x : Stock = record { available = a; quantity = q } in resource_at (n, x) (in_filter as_resource items (item.Resource n a q) (n, x) has refl)
  stands other has = made_parts.stands parts other has tt

  -- ---- each item of the plan is the key of one
  described : (k : RowKey) → IsItemOfPlan P k → (i : Item) × Contains items i × (key_of i ≡ k)
  described (key.Workstation w) e =
      let found = is_found (get P.workstations w) e in
      key_out kinds.workstations items w
      (each_workstation (λ w ws. Contains (keys_of (workstations_in items)) w) (λ row has. in_map (λ (y : Name × Attr). y.0) (workstations_in items) row has) w found.0 found.1)
  described (key.Interval w m) (ws, there, e) =
      key_out kinds.intervals items (w, m)
      (each_workstation (λ w ws. contains_key ws.intervals m ≡ true → Contains (map kinds.interval_key (intervals_in items)) (w, m)) (λ row has f. first_said (intervals_in items) row.0 m f) w ws there e)
  described (key.Resource r) e =
      let found = is_found (get P.resources r) e in
      key_out kinds.resources items r
      (in_map (λ (y : Name × Stock). y.0) (resources_in items) (r, found.0) (resource_from r found.0 found.1))
  described k e = made_parts.described parts k e

  pub are_items : AreItems (StandsIn P) (IsItemOfPlan P) items
  are_items = record { distinct = distinct; stand = all_by_members (StandsIn P) items stands; all = described }

  -- ---- the plan is a draft
  name_legal : (row : Name × Attr) → Contains (workstations_in items) row → IsName 4 row.0
  name_legal row has = read_stands kinds.workstations items_of.IsItem items legal_items row has

  resource_legal : (r : Name) (stock : Stock) → get P.resources r ≡ Some stock → IsResourceName r × (1 ≤ stock.quantity) × (stock.quantity ≤ MOST_QUANTITY)
  resource_legal r stock there =
      let is = read_stands kinds.resources items_of.IsItem items legal_items (r, stock) (resource_from r stock there) in
      (is.0, is.1.0, is.1.1)

  pair_in : (p o : OpKey) → IsPairOf P.pairs p o → IsPairIn (keys_said (operations_in items)) (p, o)
  pair_in p o e = All-contains (IsPairIn (keys_said (operations_in items))) (pairs_in items) (p, o) made.items_are.pairs.within (pair_from parts (p, o) e)

  acyclic : IsAcyclic P.pairs
  acyclic = subst IsAcyclic (same_pairs (keys_said (operations_in items)) (pairs_in items) c.pairs made.pairs) made.items_are.pairs.acyclic

  workstations_count : len P.workstations ≡ length (workstations_in items)
  workstations_count = made_count name_cmp_total name_cmp-IsAntisymmetric opened (workstations_in items) c.workstations made.workstations made.in_order.workstations

  occurrences_count : len P.occurrences ≡ length (occurrences_in items)
  occurrences_count = found_count occurrence_cmp_total occurrence_cmp-IsAntisymmetric (occurrences_in items) c.occurrences made.occurrences made.in_order.occurrences

  limits : IsWithinLimits P
  limits = record {
    workstations = let few : length (workstations_in items) ≤ MOST_WORKSTATIONS = made.items_are.workstations.few in omega (arith, workstations_count);
    resources =
        let count = found_count name_cmp_total name_cmp-IsAntisymmetric (resources_in items) c.resources made.resources made.in_order.resources in
        let few : length (resources_in items) ≤ MOST_RESOURCES = made.items_are.resources.few in
        omega (arith, count);
    occurrences = let few : length (occurrences_in items) ≤ MOST_OCCURRENCES = made.items_are.occurrences.few in omega (arith, occurrences_count);
    operations =
        let count = made_count operation_cmp_total operation_cmp-IsAntisymmetric (row_of c.occurrences (needs_in items)) (operations_in items) c.operations made.operations made.in_order.operations in
        let few : length (operations_in items) ≤ MOST_OPERATIONS = made.items_are.operations.few in
        omega (arith, count);
    pairs =
        let all : set.len P.pairs ≡ length c.pairs = len_set pair_cmp_total pair_cmp-IsAntisymmetric c.pairs (sorted_apart pair_cmp_total pair_cmp-IsAntisymmetric c.pairs made.in_order.pairs) in
        let same : length c.pairs ≡ length (pairs_in items) = length_permutation (pairs_in items) c.pairs made.pairs in
        let few : length (pairs_in items) ≤ MOST_PAIRS = made.items_are.pairs.few in
        omega arith;
  }

  valid : IsValid P
  valid = record {
    workstations = each_workstation (λ w ws. IsName 4 w × IsWorkstation ws) (λ row has. (name_legal row has, workstation_is row has));
    resources = resource_legal;
    occurrences = made_parts.occurrences_are parts;
    have_workstations = each_row parts (λ o op. contains_key P.workstations op.workstation ≡ true) (λ said has. let there = workstation_there said.workstation (fits said has).workstation in some_is (get P.workstations said.workstation) _ there.3);
    have_resources = each_row parts (λ o op. (r : Name) (usage : Usage) → get op.needs r ≡ Some usage → contains_key P.resources r ≡ true) (λ said has. used_there said.key);
    amounts = each_row parts (λ o op. (r : Name) (usage : Usage) → get op.needs r ≡ Some usage → (stock : Stock) → get P.resources r ≡ Some stock → usage.claim.amount ≤ stock.quantity) (λ said has. amount_within said.key);
    pairs = λ p o e. (end_there parts p (pair_in p o e).first, end_there parts o (pair_in p o e).second);
    acyclic = acyclic;
    limits = limits;
  }

  pub is_draft : IsDraft P
  is_draft = record { valid = valid; untouched = made_parts.untouched parts }
