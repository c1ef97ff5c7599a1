-- Items that can be loaded are those of a plan.
use Rattle.std.proofs.Common.{◌≡◌, ◌≢◌, refl, ap, subst, List, [], ◌∷◌, map, All}
use Rattle.std.specs.List.Sorted.{IsPermutation, IsStrictlySortedBy}
use Rattle.std.specs.Map.{keys_of}
use Rattle.plan_basics.specs.declared.Attr.{Attr}
use Rattle.plan_basics.specs.declared.keys.OccKey.{OccKey}
use Rattle.plan_basics.specs.declared.keys.OpKey.{OpKey}
use Rattle.plan_basics.specs.Keys.{Name, name_cmp, name_cmp_total, name_cmp-IsAntisymmetric, occurrence_cmp, occurrence_cmp_total, occurrence_cmp-IsAntisymmetric, operation_cmp, operation_cmp_total, operation_cmp-IsAntisymmetric}
use Rattle.workstations.specs.Timetables.{NamedWorkstation}
use Rattle.plan_model.specs.declared.Occurrence.{Occurrence}
use Rattle.plan_model.specs.declared.Stock.{Stock}
use Rattle.plan_model.specs.Contents.{Contents, Operation, pair_cmp}
use Rattle.plan_items.specs.declared.Item.{Item}
use Rattle.plan_items.specs.declared.OperationItem.{OperationItem}
use Rattle.plan_items.specs.Items.{IsItem}
use Rattle.plan_drafts.specs.Contents.{Rows, held_by}
use Rattle.plan_drafts.specs.Records.{AreItemsOf}
use Rattle.plan_drafts.specs.PlanItems.{CanBeLoaded, AreRowsOfItems, opened_in, row_of}
use Rattle.plan_drafts.proofs.Lists.{differ_from_pairs, differ_map}
use Rattle.plan_drafts.proofs.Pairs.{pair_cmp_total, pair_cmp-IsAntisymmetric}
use Rattle.plan_denotation.proofs.Denoting.{made_of}
use Rattle.plan_denotation.proofs.ItemKinds.{workstations_in, intervals_in, resources_in, occurrences_in, operations_in, needs_in, pairs_in}
use Rattle.record_faults.proofs.Sorting.{in_order}

-- each as it is
pub map_same : {X : Type 0} (xs : List X) → map (λ x. x) xs ≡ xs
map_same [] = refl
map_same (x ∷ xs) = ap (λ ys. x ∷ ys) (map_same xs)

module _ (items : List Item) (legal : All IsItem items) (can : CanBeLoaded items) where
  abbrev Opened : List NamedWorkstation
  Opened = map (opened_in (intervals_in items)) (workstations_in items)

  workstations : (rows : List NamedWorkstation) × IsPermutation Opened rows × IsStrictlySortedBy name_cmp (keys_of rows)
  workstations =
      in_order name_cmp_total name_cmp-IsAntisymmetric (λ (r : NamedWorkstation). r.0) Opened
      (differ_map (opened_in (intervals_in items)) (λ (a b : NamedWorkstation). a.0 ≢ b.0) (workstations_in items) (differ_from_pairs (λ (a b : Name × Attr). a.0 ≢ b.0) (workstations_in items) can.workstations.distinct))

  resources : (rows : List (Name × Stock)) × IsPermutation (resources_in items) rows × IsStrictlySortedBy name_cmp (keys_of rows)
  resources = in_order name_cmp_total name_cmp-IsAntisymmetric (λ (r : Name × Stock). r.0) (resources_in items) (differ_from_pairs (λ (a b : Name × Stock). a.0 ≢ b.0) (resources_in items) can.resources.distinct)

  occurrences : (rows : List (OccKey × Occurrence)) × IsPermutation (occurrences_in items) rows × IsStrictlySortedBy occurrence_cmp (keys_of rows)
  occurrences =
      in_order occurrence_cmp_total occurrence_cmp-IsAntisymmetric (λ (r : OccKey × Occurrence). r.0) (occurrences_in items)
      (differ_from_pairs (λ (a b : OccKey × Occurrence). a.0 ≢ b.0) (occurrences_in items) can.occurrences.distinct)

  abbrev Operations : List (OpKey × Operation)
  Operations = map (row_of occurrences.0 (needs_in items)) (operations_in items)

  operations : (rows : List (OpKey × Operation)) × IsPermutation Operations rows × IsStrictlySortedBy operation_cmp (keys_of rows)
  operations =
      in_order operation_cmp_total operation_cmp-IsAntisymmetric (λ (r : OpKey × Operation). r.0) Operations
      (differ_map (row_of occurrences.0 (needs_in items)) (λ (a b : OpKey × Operation). a.0 ≢ b.0) (operations_in items) (differ_from_pairs (λ (a b : OperationItem). a.key ≢ b.key) (operations_in items) can.operations.distinct))

  pairs : (rows : List (OpKey × OpKey)) × IsPermutation (pairs_in items) rows × IsStrictlySortedBy pair_cmp rows
  pairs =
      let sorted = in_order pair_cmp_total pair_cmp-IsAntisymmetric (λ (p : OpKey × OpKey). p) (pairs_in items) (differ_from_pairs (λ (a b : OpKey × OpKey). a ≢ b) (pairs_in items) can.pairs.distinct) in
      (sorted.0, sorted.1, subst (IsStrictlySortedBy pair_cmp) (map_same sorted.0) sorted.2)

  rows : Rows
  rows = record { workstations = workstations.0; resources = resources.0; occurrences = occurrences.0; operations = operations.0; pairs = pairs.0 }

  made : AreRowsOfItems items rows
  unfolding rows workstations resources occurrences operations pairs
  made = record {
    items_are = can;
    workstations = workstations.1;
    resources = resources.1;
    occurrences = occurrences.1;
    operations = operations.1;
    pairs = pairs.1;
    in_order = record { workstations = workstations.2; resources = resources.2; occurrences = occurrences.2; operations = operations.2; pairs = pairs.2 };
  }

  pub loaded : (P : Contents) × AreItemsOf items P
  loaded = (held_by rows, made_of items legal (held_by rows) (rows, made, refl))
