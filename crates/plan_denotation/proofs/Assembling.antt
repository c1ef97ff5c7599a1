-- The steps in which the rows of a plan are put together from what its items say.
use Rattle.std.proofs.Common.{◌≡◌, sym, subst, arith, List, map, length, All, Contains}
use Rattle.std.specs.List.Sorted.{IsPermutation}
use Rattle.std.specs.Map.{keys_of}
use Rattle.std.proofs.lemmas.List.Elements.{All-weaker}
use Rattle.std.proofs.lemmas.List.Sorted.{All-permutation, Contains-permutation, IsPermutation-sym}
use Rattle.plan_basics.specs.declared.Attr.{Attr}
use Rattle.plan_basics.specs.declared.keys.OccKey.{OccKey}
use Rattle.plan_basics.specs.declared.keys.OpKey.{OpKey}
use Rattle.plan_basics.specs.Keys.{Name}
use Rattle.plan_model.specs.workstations.specs.Timetables.{NamedWorkstation}
use Rattle.plan_items.specs.special_resources.specs.declared.Need.{Need}
use Rattle.plan_model.specs.Contents.{Operation}
use Rattle.plan_model.specs.declared.Occurrence.{Occurrence}
use Rattle.plan_model.specs.declared.Stock.{Stock}
use Rattle.plan_items.specs.declared.Item.{Item}
use Rattle.plan_items.specs.declared.OperationItem.{OperationItem}
use Rattle.plan_drafts.specs.Contents.{Rows}
use Rattle.plan_drafts.specs.PlanItems.{Fits, AreWorkstationsInOrder, AreResourcesInOrder, AreOccurrencesInOrder, AreOperations, AreRowsOf, IsNeedIn, IsWithinStock, AreNeedsInOrder, IsPairIn, ArePairs, ArePairsInOrder, CanBeLoaded, AreRowsOfItems, keys_said, needs_of, occurrence_of, terms_of}
use Rattle.plan_denotation.proofs.ItemKinds.{workstations_in, intervals_in, resources_in, occurrences_in, operations_in, needs_in, pairs_in}
use Rattle.plan_drafts.proofs.Lists.{keys_permuted}
use Rattle.plan_denotation.proofs.Openings.{station_in}
use Rattle.plan_denotation.proofs.InOrder.{operation_in}
use Rattle.plan_drafts.proofs.Keyed.{key_to_row, row_to_key}
use Rattle.plan_denotation.proofs.NeedsSaid.{need_counts, rows_alike}

-- ---- what is said goes by which keys there are, in any order

-- pairs go by which keys there are
pairs_over : {ks ls : List OpKey} {pairs : List (OpKey × OpKey)} → ArePairs ks pairs → ((o : OpKey) → Contains ks o → Contains ls o) → ArePairs ls pairs
pairs_over {ks} {ls} {pairs} are all = record {
  few = are.few;
  within = All-weaker (IsPairIn ks) (IsPairIn ls) (λ p is. record { first = all p.0 is.first; second = all p.1 is.second }) pairs are.within;
  distinct = are.distinct;
  acyclic = are.acyclic;
}

-- needs go by which keys and names there are, in any order
needs_over :
    {ks ls : List OpKey} {ms ns : List Name} {needs others : List (OpKey × Need)} → All (IsNeedIn ks ms) needs → IsPermutation needs others → ((o : OpKey) → Contains ks o → Contains ls o) →
    ((r : Name) → Contains ms r → Contains ns r) → All (IsNeedIn ls ns) others
needs_over {ks} {ls} {ms} {ns} {needs} {others} all same keys names =
    All-weaker (IsNeedIn ks ms) (IsNeedIn ls ns) (λ said is. record { operation = keys said.0 is.operation; resource = names said.1.name is.resource }) others (All-permutation (IsNeedIn ks ms) needs others same all)

-- amounts go by what there is of each resource, in any order
amounts_over :
    {resources listed : List (Name × Stock)} {needs others : List (OpKey × Need)} → All (IsWithinStock resources) needs → IsPermutation resources listed → IsPermutation needs others → All (IsWithinStock listed) others
amounts_over {resources} {listed} {needs} {others} all same same_needs =
    All-weaker (IsWithinStock resources) (IsWithinStock listed) (λ said is. record { within = λ stock has. is.within stock (Contains-permutation listed resources (said.1.name, stock) (IsPermutation-sym resources listed same) has) }) others
    (All-permutation (IsWithinStock resources) needs others same_needs all)

-- operations go by which workstations and occurrences there are, and by how many needs each has
operations_over :
    {ms ns : List Name} {os ps : List (OccKey × Occurrence)} {needs others : List (OpKey × Need)} {said : List OperationItem} → AreOperations ms os needs said →
    ((w : Name) → Contains ms w → Contains ns w) → IsPermutation os ps → ((o : OpKey) → length (needs_of o needs) ≡ length (needs_of o others)) → AreOperations ns ps others said
operations_over {ms} {ns} {os} {ps} {needs} {others} {said} are names same counts = record {
  few = are.few;
  fit = All-weaker (Fits ms os needs) (Fits ns ps others) (λ s is. record {
    workstation = names s.workstation is.workstation;
    occurrence = keys_permuted os ps same s.key.occurrence is.occurrence;
    few_needs = let few = is.few_needs in let count = counts s.key in omega (arith, few, count);
  }) said are.fit;
  distinct = are.distinct;
  not_empty = All-permutation (λ row. Contains (map occurrence_of (keys_said said)) row.0) os ps same are.not_empty;
}

-- ---- the whole
module _ (items : List Item) where
  -- the operations don't fit together
  pub no_operations :
      (opened : List NamedWorkstation) (ordered : List (OccKey × Occurrence)) (sorted : List (OpKey × Need)) → AreWorkstationsInOrder (workstations_in items) (intervals_in items) opened →
      AreOccurrencesInOrder (occurrences_in items) ordered → AreNeedsInOrder (needs_in items) sorted → ¬ AreOperations (keys_of opened) ordered sorted (operations_in items) → ¬ CanBeLoaded items
  no_operations opened ordered sorted are in_order needs none can =
      let names = key_to_row (λ (row : Name × Attr). row.0) (station_in (intervals_in items)) (workstations_in items) opened are.same in
      none (operations_over can.operations names in_order.same (need_counts (needs_in items) sorted needs))

  -- a need is of no operation or of no resource
  pub no_needs :
      (names : List Name) (occurrences : List (OccKey × Occurrence)) (resources : List (Name × Stock)) (sorted : List (OpKey × Need)) (rows : List (OpKey × Operation)) →
      AreResourcesInOrder (resources_in items) resources → AreNeedsInOrder (needs_in items) sorted → AreRowsOf names occurrences sorted (operations_in items) rows →
      ¬ All (IsNeedIn (keys_of rows) (keys_of resources)) sorted → ¬ CanBeLoaded items
  no_needs names occurrences resources sorted rows named needs are none can =
      let keys = key_to_row (λ (s : OperationItem). s.key) (operation_in occurrences sorted) (operations_in items) rows are.same in
      none (needs_over can.needs.within needs.same keys (keys_permuted (resources_in items) resources named.same))

  -- a need is of more than there is
  pub no_amounts :
      (resources : List (Name × Stock)) (sorted : List (OpKey × Need)) → AreResourcesInOrder (resources_in items) resources → AreNeedsInOrder (needs_in items) sorted →
      ¬ All (IsWithinStock resources) sorted → ¬ CanBeLoaded items
  no_amounts resources sorted named needs none can = none (amounts_over can.amounts named.same needs.same)

  -- the pairs aren't pairs of the operations
  pub no_pairs :
      (names : List Name) (occurrences : List (OccKey × Occurrence)) (sorted : List (OpKey × Need)) (rows : List (OpKey × Operation)) →
      AreRowsOf names occurrences sorted (operations_in items) rows → ¬ ArePairs (keys_of rows) (pairs_in items) → ¬ CanBeLoaded items
  no_pairs names occurrences sorted rows are none can = none (pairs_over can.pairs (key_to_row (λ (s : OperationItem). s.key) (operation_in occurrences sorted) (operations_in items) rows are.same))

  pub rows_are_of :
      (c : Rows) (sorted : List (OpKey × Need)) → AreWorkstationsInOrder (workstations_in items) (intervals_in items) c.workstations → AreResourcesInOrder (resources_in items) c.resources →
      AreOccurrencesInOrder (occurrences_in items) c.occurrences → AreNeedsInOrder (needs_in items) sorted →
      AreRowsOf (keys_of c.workstations) c.occurrences sorted (operations_in items) c.operations →
      All (IsNeedIn (keys_of c.operations) (keys_of c.resources)) sorted → All (IsWithinStock c.resources) sorted →
      ArePairsInOrder (keys_of c.operations) (pairs_in items) c.pairs → AreRowsOfItems items c
  rows_are_of c sorted stations resources occurrences needs rows within amounts pairs =
      let names = row_to_key (λ (row : Name × Attr). row.0) (station_in (intervals_in items)) (workstations_in items) c.workstations stations.same in
      let keys = row_to_key (λ (s : OperationItem). s.key) (operation_in c.occurrences sorted) (operations_in items) c.operations rows.same in
      let resources_back = keys_permuted c.resources (resources_in items) (IsPermutation-sym (resources_in items) c.resources resources.same) in
      let occurrences_back = IsPermutation-sym (occurrences_in items) c.occurrences occurrences.same in
      record {
        items_are = record {
          workstations = stations.are;
          resources = resources.are;
          occurrences = occurrences.are;
          operations = operations_over rows.operations names occurrences_back (λ o. sym (need_counts (needs_in items) sorted needs o));
          needs = record { within = needs_over within (IsPermutation-sym (needs_in items) sorted needs.same) keys resources_back; distinct = needs.distinct };
          amounts = amounts_over amounts (IsPermutation-sym (resources_in items) c.resources resources.same) (IsPermutation-sym (needs_in items) sorted needs.same);
          pairs = pairs_over pairs.are keys;
        };
        workstations = stations.same;
        resources = resources.same;
        occurrences = occurrences.same;
        operations = subst (λ rs. IsPermutation rs c.operations) (sym (rows_alike (needs_in items) sorted needs (λ s. terms_of c.occurrences s.key.occurrence) (operations_in items))) rows.same;
        pairs = pairs.same;
        in_order = record { workstations = stations.in_order; resources = resources.in_order; occurrences = occurrences.in_order; operations = rows.in_order; pairs = pairs.in_order };
      }
