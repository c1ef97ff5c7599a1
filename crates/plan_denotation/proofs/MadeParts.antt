-- The occurrences, operations and pairs that are made of items, for a plan as for an addition, are those that the items say.
use Rattle.std.proofs.Common.{◌≡◌, ◌≢◌, refl, sym, subst, ap, ◌∙◌, arith, ◌≤◌, true, List, map, length, All, Contains, Some}
use Rattle.std.specs.List.Sorted.{IsPermutation, IsStrictlySortedBy}
use Rattle.std.specs.Cmp.{IsTotalOrder}
use Rattle.std.specs.declared.cmp.Ordering.{Ordering}
use Rattle.std.specs.FinMap.{IsAntisymmetric, get, contains_key, from_entries, len}
use Rattle.std.specs.FinSet as set
use Rattle.std.specs.Map.{keys_of}
use Rattle.std.proofs.lemmas.List.Elements.{All-contains}
use Rattle.std.proofs.lemmas.List.Sorted.{Contains-permutation, IsPermutation-sym, length_permutation}
use Rattle.plan_basics.specs.declared.limits.TheConstants.{MOST_NEEDS}
use Rattle.plan_basics.specs.declared.keys.OccKey.{OccKey}
use Rattle.plan_basics.specs.declared.keys.OpKey.{OpKey}
use Rattle.plan_basics.specs.Keys.{Name, operation_cmp, operation_cmp_total, operation_cmp-IsAntisymmetric}
use Rattle.plan_basics.specs.Names.{IsResourceName}
use Rattle.plan_items.specs.special_resources.specs.declared.Need.{Need}
use Rattle.plan_items.specs.special_resources.specs.Holders.{Usage, IsAmount}
use Rattle.plan_items.specs.special_resources.specs.Holdings.{usage_of}
use Rattle.plan_items.specs.special_resources.specs.Needs.{usages_of}
use Rattle.plan_model.specs.Contents.{Operation, Occurrences, AddedParts, IsPairOf}
use Rattle.plan_model.specs.Valid.{IsOccurrence, IsOperation, AreOccurrences, AreUntouched, IsUntouched}
use Rattle.plan_model.specs.declared.Occurrence.{Occurrence}
use Rattle.plan_items.specs.declared.Item.{Item}
use Rattle.plan_items.specs.declared.Item.TheVariants as item
use Rattle.plan_items.specs.declared.OperationItem.{OperationItem}
use Rattle.plan_items.specs.Items as items_of
use Rattle.plan_drafts.specs.declared.RowKey.{RowKey}
use Rattle.plan_drafts.specs.declared.RowKey.TheVariants as key
use Rattle.plan_drafts.specs.Records.{key_of, StandsInAdded, IsItemOf}
use Rattle.plan_drafts.specs.PlanItems.{EachHasOperation, as_occurrence, as_operation, as_pair, as_need, keys_said, need_key, needs_of, occurrence_of}
use Rattle.plan_drafts.specs.ExtensionItems.{MayComeIn, AreNewNeeds, IsNeedOf}
use Rattle.plan_drafts.proofs.Lists.{differ_from_pairs, in_map, from_map, in_filter, length_map}
use Rattle.plan_drafts.proofs.Tables.{some_is, is_found, rows_apart, get_row, row_found, len_rows, in_set, from_set}
use Rattle.plan_drafts.proofs.Pairs.{pair_cmp_total, pair_cmp-IsAntisymmetric}
use Rattle.plan_denotation.proofs.NeedsSaid.{NeedsDiffer, in_range, row_with, usage_got, usage_said}
use Rattle.plan_denotation.proofs.ItemKinds as kinds
use Rattle.plan_denotation.proofs.ItemKinds.{needs_in, occurrences_in, operations_in, pairs_in, key_out, read_stands}

-- ---- rows in another order
module _ {K X : Type 0} {R : K → K → Ordering} (total : IsTotalOrder R) (exact : IsAntisymmetric R) (said rows : List (K × X)) (same : IsPermutation said rows) where
  -- a row that is said is found
  pub said_found : IsStrictlySortedBy R (keys_of rows) → (row : K × X) → Contains said row → get (from_entries {R = R} rows) row.0 ≡ Some row.1
  said_found up row has = get_row total exact rows row.0 row.1 (rows_apart total exact rows up) (Contains-permutation said rows row same has)

  -- what is found is said
  pub found_said : (k : K) (x : X) → get (from_entries {R = R} rows) k ≡ Some x → Contains said (k, x)
  found_said k x e = Contains-permutation rows said (k, x) (IsPermutation-sym said rows same) (row_found total exact rows k x e)

  -- and there are as many
  pub found_count : IsStrictlySortedBy R (keys_of rows) → len (from_entries {R = R} rows) ≡ length said
  found_count up = len_rows total exact rows (rows_apart total exact rows up) ∙ length_permutation said rows same

-- the same of rows that are made of what is said
module _ {S K X : Type 0} {R : K → K → Ordering} (total : IsTotalOrder R) (exact : IsAntisymmetric R) (row : S → K × X) (said : List S) (rows : List (K × X)) (same : IsPermutation (map row said) rows) where
  pub made_found : IsStrictlySortedBy R (keys_of rows) → (s : S) → Contains said s → get (from_entries {R = R} rows) (row s).0 ≡ Some (row s).1
  made_found up s has = said_found total exact (map row said) rows same up (row s) (in_map row said s has)

  -- what is so of each row that is made is so of each that is found
  pub each_made : (Q : K → X → Type 0) → ((s : S) → Contains said s → Q (row s).0 (row s).1) → (k : K) (x : X) → get (from_entries {R = R} rows) k ≡ Some x → Q k x
  each_made Q so k x e =
      let r = from_map row said (k, x) (found_said total exact (map row said) rows same k x e) in
      subst (λ z. Q z.0 z.1) r.2 (so r.0 r.1)

  pub made_count : IsStrictlySortedBy R (keys_of rows) → len (from_entries {R = R} rows) ≡ length said
  made_count up = found_count total exact (map row said) rows same up ∙ length_map row said

-- ---- what items say of occurrences, operations, pairs and needs
-- a map of the occurrences that items say, rows of their operations, each with the terms of its occurrence, and their pairs in another order
pub record AreParts (items : List Item) (terms : OperationItem → Occurrence) (occurrences : Occurrences) (rows : List (OpKey × Operation)) (ordered : List (OpKey × OpKey)) : Type 0 where
  pub legal : All items_of.IsItem items
  pub occurrence_at : (row : OccKey × Occurrence) → Contains (occurrences_in items) row → get occurrences row.0 ≡ Some row.1
  pub occurrence_from : (k : OccKey) (x : Occurrence) → get occurrences k ≡ Some x → Contains (occurrences_in items) (k, x)
  pub terms_at : (said : OperationItem) → Contains (operations_in items) said → get occurrences said.key.occurrence ≡ Some (terms said)
  pub not_empty : EachHasOperation (keys_said (operations_in items)) (occurrences_in items)
  pub few_needs : (said : OperationItem) → Contains (operations_in items) said → length (needs_of said.key (needs_in items)) ≤ MOST_NEEDS
  pub needs : AreNewNeeds (keys_said (operations_in items)) (needs_in items)
  pub operations : IsPermutation (map (row_with terms (needs_in items)) (operations_in items)) rows
  pub in_order : IsStrictlySortedBy operation_cmp (keys_of rows)
  pub pairs : IsPermutation (pairs_in items) ordered

module _ {items : List Item} {terms : OperationItem → Occurrence} {occurrences : Occurrences} {rows : List (OpKey × Operation)} {ordered : List (OpKey × OpKey)} (parts : AreParts items terms occurrences rows ordered) where
  abbrev S : AddedParts
  S = record { occurrences = occurrences; operations = from_entries rows; pairs = set.from_list ordered }

  abbrev row : OperationItem → OpKey × Operation
  row = row_with terms (needs_in items)

  needs_apart : NeedsDiffer (needs_in items)
  needs_apart = differ_from_pairs (λ y z. need_key y ≢ need_key z) (needs_in items) parts.needs.distinct

  row_at : (said : OperationItem) → Contains (operations_in items) said → get S.operations said.key ≡ Some (row said).1
  row_at = made_found operation_cmp_total operation_cmp-IsAntisymmetric row (operations_in items) rows parts.operations parts.in_order

  -- what is so of each operation that the items say is so of each that is made
  pub each_row : (Q : OpKey → Operation → Type 0) → ((said : OperationItem) → Contains (operations_in items) said → Q said.key (row said).1) → (o : OpKey) (op : Operation) → get S.operations o ≡ Some op → Q o op
  each_row = each_made operation_cmp_total operation_cmp-IsAntisymmetric row (operations_in items) rows parts.operations

  pub pair_from : (p : OpKey × OpKey) → IsPairOf S.pairs p.0 p.1 → Contains (pairs_in items) p
  pair_from p e = Contains-permutation ordered (pairs_in items) p (IsPermutation-sym (pairs_in items) ordered parts.pairs) (from_set pair_cmp_total pair_cmp-IsAntisymmetric ordered p e)

  -- an operation that is said is there
  pub end_there : (o : OpKey) → Contains (keys_said (operations_in items)) o → contains_key S.operations o ≡ true
  end_there o has =
      let r = from_map (λ (said : OperationItem). said.key) (operations_in items) o has in
      subst (λ z. contains_key S.operations z ≡ true) r.2 (some_is (get S.operations r.0.key) (row r.0).1 (row_at r.0 r.1))

  -- ---- each item is there
  need_at : (o : OpKey) (need : Need) → Contains (needs_in items) (o, need) → (op : Operation) × (get S.operations o ≡ Some op) × (get op.needs need.name ≡ Some (usage_of need))
  need_at o need has =
      let r = from_map (λ (said : OperationItem). said.key) (operations_in items) o (All-contains (IsNeedOf (keys_said (operations_in items))) (needs_in items) (o, need) parts.needs.within has) in
      ((row r.0).1, ap (get S.operations) (sym r.2) ∙ row_at r.0 r.1, ap (λ k. get (usages_of (needs_of k (needs_in items))) need.name) r.2 ∙ usage_got (needs_in items) needs_apart o need has)

  pub stands : (i : Item) → Contains items i → MayComeIn i → StandsInAdded S i
  stands (item.Occurrence k q d) has may = let x : Occurrence = record { priority = q; deadline = d } in parts.occurrence_at (k, x) (in_filter as_occurrence items (item.Occurrence k q d) (k, x) has refl)
  stands (item.Operation said) has may =
      let in_said = in_filter as_operation items (item.Operation said) said has refl in
      ((row said).1, terms said, row_at said in_said, parts.terms_at said in_said, record { workstation = refl; duration = refl; fixed = (refl, refl); not_before = refl; deadline = refl })
  stands (item.Dependency p o) has may =
      let said = in_filter as_pair items (item.Dependency p o) (p, o) has refl in
      in_set pair_cmp_total pair_cmp-IsAntisymmetric ordered (p, o) (Contains-permutation (pairs_in items) ordered (p, o) parts.pairs said)
  stands (item.Need o need) has may = need_at o need (in_filter as_need items (item.Need o need) (o, need) has refl)
  stands _ has may = absurd may

  -- ---- what is there is the key of one
  -- a resource that an operation needs is said of it
  need_said : (o : OpKey) (r : Name) → contains_key (usages_of (needs_of o (needs_in items))) r ≡ true → Contains (map need_key (needs_in items)) (o, r)
  need_said o r e =
      let found = is_found (get (usages_of (needs_of o (needs_in items))) r) e in
      let n = usage_said (needs_in items) o r found.0 found.1 in
      subst (λ z. Contains (map need_key (needs_in items)) (o, z)) n.2 (in_map need_key (needs_in items) (o, n.0) n.1)

  pub described : (k : RowKey) → IsItemOf S k → (i : Item) × Contains items i × (key_of i ≡ k)
  described (key.Occurrence k) e =
      let found = is_found (get occurrences k) e in
      key_out kinds.occurrences items k
      (in_map (λ (y : OccKey × Occurrence). y.0) (occurrences_in items) (k, found.0) (parts.occurrence_from k found.0 found.1))
  described (key.Operation o) e =
      let found = is_found (get S.operations o) e in
      key_out kinds.operations items o
      (each_row (λ o op. Contains (keys_said (operations_in items)) o) (λ said has. in_map (λ (said : OperationItem). said.key) (operations_in items) said has) o found.0 found.1)
  described (key.Dependency p o) e =
      key_out kinds.pairs items (p, o) (in_map (λ (y : OpKey × OpKey). y) (pairs_in items) (p, o) (pair_from (p, o) e))
  described (key.Need o r) (op, there, e) =
      key_out kinds.needs items (o, r)
      (each_row (λ o op. contains_key op.needs r ≡ true → Contains (map need_key (needs_in items)) (o, r)) (λ said has f. need_said said.key r f) o op there e)
  described _ e = absurd e

  -- ---- they are in range, and nothing is reported of them
  occurrence_legal : (k : OccKey) (x : Occurrence) → get occurrences k ≡ Some x → IsOccurrence k x
  occurrence_legal k x e =
      let is = read_stands kinds.occurrences items_of.IsItem items parts.legal (k, x) (parts.occurrence_from k x e) in
      record { key = is.0; priority = (omega arith, omega arith); deadline = is.2 }

  usage_legal : (o : OpKey) (r : Name) (usage : Usage) → get (usages_of (needs_of o (needs_in items))) r ≡ Some usage → IsResourceName r × IsAmount usage.claim.mode usage.claim.amount
  usage_legal o r usage e =
      let n = usage_said (needs_in items) o r usage e in
      let is = read_stands kinds.needs items_of.IsItem items parts.legal (o, n.0) n.1 in
      (subst IsResourceName n.2 is.1, subst (λ (u : Usage). IsAmount u.claim.mode u.claim.amount) n.3 is.2)

  operation_legal : (said : OperationItem) → Contains (operations_in items) said → IsOperation said.key (row said).1
  operation_legal said has =
      in_range (needs_in items) needs_apart (terms said) said (read_stands kinds.operations items_of.IsItem items parts.legal said has) (parts.few_needs said has)
      (occurrence_legal said.key.occurrence (terms said) (parts.terms_at said has)).deadline (usage_legal said.key)

  pub occurrences_are : AreOccurrences S.occurrences S.operations
  occurrences_are = record {
    each_occurrence = occurrence_legal;
    each_operation = each_row (λ o op. IsOperation o op × (contains_key occurrences o.occurrence ≡ true)) (λ said has. (operation_legal said has, some_is (get occurrences said.key.occurrence) (terms said) (parts.terms_at said has)));
    not_empty = λ k e.
        let found = is_found (get occurrences k) e in
        let of = All-contains (λ (row : OccKey × Occurrence). Contains (map occurrence_of (keys_said (operations_in items))) row.0) (occurrences_in items) (k, found.0) parts.not_empty (parts.occurrence_from k found.0 found.1) in
        let o = from_map occurrence_of (keys_said (operations_in items)) k of in
        (o.0, o.2, end_there o.0 o.1);
  }

  pub untouched : AreUntouched S.operations
  untouched = each_row (λ o op. IsUntouched op) (λ said has. (refl, refl, refl))
