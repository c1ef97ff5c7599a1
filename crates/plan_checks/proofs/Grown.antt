-- A plan with occurrences that are added: the keys of its operations, their pairs, and whether it holds no more than it may.
use Rattle.std.proofs.Common.{◌≡◌, ◌≢◌, ◌⊎◌, inl, inr, refl, sym, ap, subst, ◌∙◌, arith, ℕ, ◌+◌, true, true≢false, ◌||◌, List, [], ◌∷◌, ◌++◌, Contains, drop, length, slice_get, Option, Some, None, is_some}
use Rattle.std.proofs.lemmas.Bool.{false_from_ne_true, or_cases, or_left, or_right}
use Rattle.std.proofs.lemmas.List.{append_assoc, drop_more, length-append, length-map}
use Rattle.std.proofs.lemmas.List.Elements.{Contains-append_cases, Contains-append_left, Contains-append_right}
use Rattle.std.proofs.lemmas.Option.{get_or_from_slice_get, slice_get-get_or, slice_get_within}
use Rattle.std.specs.Cmp.{IsTotalOrder}
use Rattle.std.specs.FinMap.{FinMap, IsAntisymmetric, contains_key, contains_key-keys, entries, get, keys, len, len-entries}
use Rattle.std.specs.FinSet as set
use Rattle.std.specs.List.Sorted.{IsStrictlySortedBy}
use Rattle.std.specs.Map.{keys_of}
use Rattle.std.specs.declared.cmp.Ordering.{Ordering}
use Rattle.plan_basics.proofs.Members.{contains_mapped, mapped_contains}
use Rattle.plan_basics.specs.Keys.{occurrence_cmp_total, occurrence_cmp-IsAntisymmetric, operation_cmp, operation_cmp_total, operation_cmp-IsAntisymmetric}
use Rattle.plan_basics.specs.declared.Refusal.TheVariants as refusal
use Rattle.plan_basics.specs.declared.keys.OpKey.{OpKey}
use Rattle.derived_figures.specs.plan_changes.proofs.Merging.{differ_both}
use Rattle.derived_figures.specs.plan_changes.specs.Additions.{HasNothingOf, ShareNoKey, ShareNoMember}
use Rattle.plan_checks.proofs.Limits.{pairs_counted}
use Rattle.plan_checks.specs.Additions.{HasRoomFor}
use Rattle.plan_model.proofs.Entries.{entries_in_order, keys_of-entries}
use Rattle.plan_model.proofs.Members.{if_member, member_if}
use Rattle.plan_model.specs.Contents.{AddedParts, Contents, Operation, pair_cmp}
use Rattle.plan_model.specs.Revise.{get-joined, joined, or_else}
use Rattle.plan_model.specs.Valid.{IsValid, IsWithinLimits}
use Rattle.plan_records.specs.Acceptance.{MayBeAdded}
use Rattle.plan_records.specs.Changes.{with_added}
use Rattle.plan_drafts.proofs.Lists.{Differ, length_map}
use Rattle.plan_drafts.proofs.Tables.{from_set, get_row, in_set, is_found, len_rows, map_count, row_found as row_in, rows_apart, some_is, sorted_apart}
use Rattle.plan_drafts.specs.Contents.{AreExtensionParts, added_of}
use Rattle.plan_drafts.specs.PlanGraphs.{JoinOperations}
use Rattle.plan_drafts.specs.declared.contents.ExtensionParts.{ExtensionParts}
use Rattle.derived_figures.specs.plan_laws.proofs.ComingIn.{an_end, from_first, pair_cases}
use Rattle.derived_figures.specs.plan_laws.proofs.Sorted.{sorted_unique}
use Rattle.derived_figures.specs.plan_status.proofs.LoadedRows.{known_among, row_found}
use Rattle.derived_figures.specs.plan_status.proofs.RowKeys.{row_of_key}

module _ (P : Contents) (valid : IsValid P) (s : AddedParts) (known : MayBeAdded P s refusal.UnknownOperation) where
  -- both ends of each pair are operations of the plan that is made so
  pub joins_operations : JoinOperations (with_added P s).operations (with_added P s).pairs
  joins_operations p o pair = elim (pair_cases P s p o pair) [
    | inl old ↦ let ends = valid.pairs p o old in (from_first P s p ends.0, from_first P s o ends.1)
    | inr new ↦ let ends = known p o new in (an_end P s p ends.0, an_end P s o ends.1)
  ]

-- ---- keys

-- the keys so far, with one more, and those that are left are all
pub keys_on : (ks found : List OpKey) (i : ℕ) (k : OpKey) → slice_get ks i ≡ Some k → found ++ drop i ks ≡ ks → (found ++ k ∷ []) ++ drop (i + 1) ks ≡ ks
keys_on ks found i k at so_far =
    append_assoc found (k ∷ []) (drop (i + 1) ks)
    ∙ ap (λ x. found ++ x ∷ drop (i + 1) ks) (sym (get_or_from_slice_get ks i k k at))
    ∙ ap (λ xs. found ++ xs) (sym (drop_more ks i k (slice_get_within ks i k at)))
    ∙ so_far

-- a key among those of the operations is known
known_key : (P : Contents) (o : OpKey) → Contains (keys P.operations) o → contains_key P.operations o ≡ true
known_key P o (i, lt, is) =
    let row = row_of_key (entries P.operations) i o (slice_get-get_or (keys P.operations) i o lt ∙ ap Some is) in
    some_is (get P.operations o) row.0 (row_found P i o row.0 row.1)

either_there : {X : Type 0} (a b : Option X) → is_some (or_else a b) ≡ true → (is_some a ≡ true) ⊎ (is_some b ≡ true)
either_there (Some x) b e = inl refl
either_there None b e = inr e

module _ (P : Contents) (parts : ExtensionParts) (are : AreExtensionParts parts) where
  abbrev s : AddedParts
  s = added_of parts

  abbrev new_keys : List OpKey
  new_keys = keys_of parts.operations.items

  -- the keys of what is added are those of its rows
  known_new : (o : OpKey) → Contains new_keys o → contains_key s.operations o ≡ true
  known_new o has =
      let row = mapped_contains (λ (r : OpKey × Operation). r.0) parts.operations.items o has in
      some_is (get s.operations o) row.0.1
      (get_row operation_cmp_total operation_cmp-IsAntisymmetric parts.operations.items o row.0.1 (rows_apart operation_cmp_total operation_cmp-IsAntisymmetric parts.operations.items are.operations)
      (subst (λ k. Contains parts.operations.items (k, row.0.1)) row.1 row.2))

  new_known : (o : OpKey) → contains_key s.operations o ≡ true → Contains new_keys o
  new_known o e =
      let found = is_found (get s.operations o) e in
      contains_mapped (λ (r : OpKey × Operation). r.0) parts.operations.items (o, found.0) (row_in operation_cmp_total operation_cmp-IsAntisymmetric parts.operations.items o found.0 found.1)

  -- none of them is in the plan
  pub keys_apart : HasNothingOf P s → ShareNoMember {R = operation_cmp} (set.from_list (keys P.operations)) (set.from_list new_keys)
  keys_apart apart o there =
      false_from_ne_true _ (λ comes.
      true≢false (sym (known_new o (from_set operation_cmp_total operation_cmp-IsAntisymmetric new_keys o comes))
      ∙ apart.operations o (known_key P o (from_set operation_cmp_total operation_cmp-IsAntisymmetric (keys P.operations) o there))))

  -- the keys of both, in order, are those of the plan that is made so
  module _ (made : List OpKey) (up : IsStrictlySortedBy operation_cmp made) (both : set.from_list {R = operation_cmp} made ≡ set.union (set.from_list (keys P.operations)) (set.from_list new_keys)) where
    to : (o : OpKey) → Contains made o → Contains (keys (with_added P s).operations) o
    to o has =
        let old = set.contains {R = operation_cmp} (set.from_list (keys P.operations)) o in
        let new = set.contains {R = operation_cmp} (set.from_list new_keys) o in
        let either : (old || new) ≡ true = sym (ap (λ (z : set.FinSet operation_cmp). set.contains z o) both ∙ set.contains-union operation_cmp_total (set.from_list (keys P.operations)) (set.from_list new_keys) o)
        ∙ in_set operation_cmp_total operation_cmp-IsAntisymmetric made o has in
        known_among (with_added P s) o (elim (or_cases old new either) [
          | inl first ↦ from_first P s o (known_key P o (from_set operation_cmp_total operation_cmp-IsAntisymmetric (keys P.operations) o first))
          | inr second ↦ an_end P s o (inl (known_new o (from_set operation_cmp_total operation_cmp-IsAntisymmetric new_keys o second)))
        ])

    back : (o : OpKey) → Contains (keys (with_added P s).operations) o → Contains made o
    back o has =
        let old = set.contains {R = operation_cmp} (set.from_list (keys P.operations)) o in
        let new = set.contains {R = operation_cmp} (set.from_list new_keys) o in
        let there = sym (ap is_some (get-joined operation_cmp_total P.operations s.operations o)) ∙ known_key (with_added P s) o has in
        let either : (old || new) ≡ true = elim (either_there (get s.operations o) (get P.operations o) there) [
          | inl second ↦ or_right old new (in_set operation_cmp_total operation_cmp-IsAntisymmetric new_keys o (new_known o second))
          | inr first ↦ or_left old new (in_set operation_cmp_total operation_cmp-IsAntisymmetric (keys P.operations) o (known_among P o first))
        ] in
        from_set operation_cmp_total operation_cmp-IsAntisymmetric made o
        (ap (λ (z : set.FinSet operation_cmp). set.contains z o) both ∙ set.contains-union operation_cmp_total (set.from_list (keys P.operations)) (set.from_list new_keys) o ∙ either)

    pub grown_keys : made ≡ keys (with_added P s).operations
    grown_keys = sorted_unique operation_cmp_total made (keys (with_added P s).operations) up (entries_in_order operation_cmp (with_added P s).operations) to back

-- ---- room

-- two maps without a common key have together as many entries as both
module _ {K X : Type 0} {R : K → K → Ordering} (total : IsTotalOrder R) (exact : IsAntisymmetric R) where
  as_many : (m : FinMap R X) → length (keys m) ≡ len m
  as_many m = ap length (keys_of-entries R m) ∙ length_map (λ e. e.0) (entries m) ∙ sym (len-entries m)

  had : (m : FinMap R X) (k : K) → Contains (keys m) k → contains_key m k ≡ true
  had m k has = contains_key-keys m k ∙ if_member total (keys m) k has

  in_keys : (m : FinMap R X) (k : K) → contains_key m k ≡ true → Contains (keys m) k
  in_keys m k known = member_if exact (keys m) k (sym (contains_key-keys m k) ∙ known)

  keys_apart_in : (m n : FinMap R X) → ShareNoKey m n → Differ (λ a b. a ≢ b) (keys m ++ keys n)
  keys_apart_in m n apart =
      differ_both (λ a b. a ≢ b) (keys m) (keys n) (sorted_apart total exact (keys m) (entries_in_order R m)) (sorted_apart total exact (keys n) (entries_in_order R n))
      (λ a b in_a in_b same. true≢false (sym (had n b in_b) ∙ ap (contains_key n) (sym same) ∙ apart a (had m a in_a)))

  pub len_joined : (m n : FinMap R X) → ShareNoKey m n → len (joined m n) ≡ len m + len n
  len_joined m n apart =
      let together : length (keys m ++ keys n) ≡ len (joined m n) = map_count total exact (keys m ++ keys n) (joined m n) (keys_apart_in m n apart)
      (λ k has. ap is_some (get-joined total m n k) ∙ elim (Contains-append_cases (keys m) (keys n) k has) [
        | inl first ↦ second_there (get n k) (get m k) (had m k first)
        | inr second ↦ first_there (get n k) (get m k) (had n k second)
      ])
      (λ k known. elim (either_there (get n k) (get m k) (sym (ap is_some (get-joined total m n k)) ∙ known)) [
        | inl second ↦ Contains-append_right (keys m) (keys n) k (in_keys n k second)
        | inr first ↦ Contains-append_left (keys m) (keys n) k (in_keys m k first)
      ]) in
      sym together ∙ length-append (keys m) (keys n) ∙ (λ i. as_many m i + as_many n i)
    where
      first_there : (a b : Option X) → is_some a ≡ true → is_some (or_else a b) ≡ true
      first_there (Some x) b e = refl
      first_there None b e = absurd (true≢false (sym e))

      second_there : (a b : Option X) → is_some b ≡ true → is_some (or_else a b) ≡ true
      second_there (Some x) b e = refl
      second_there None b e = e

module _ (P : Contents) (valid : IsValid P) (parts : ExtensionParts) (are : AreExtensionParts parts) (new : MayBeAdded P (added_of parts) refusal.Duplicate) (ks : List OpKey) (pairs : List (OpKey × OpKey))
    (keyed : ks ≡ keys (with_added P (added_of parts)).operations) (paired : set.from_list pairs ≡ (with_added P (added_of parts)).pairs) (up : IsStrictlySortedBy pair_cmp pairs) where
  abbrev Q : Contents
  Q = with_added P (added_of parts)

  -- none of the occurrences that are added is there
  apart : ShareNoKey P.occurrences (added_of parts).occurrences
  apart c there = false_from_ne_true (contains_key (added_of parts).occurrences c) (λ comes. true≢false (sym there ∙ new c comes))

  occurrences_counted : len Q.occurrences ≡ len P.occurrences + length parts.occurrences.items
  occurrences_counted =
      len_joined occurrence_cmp_total occurrence_cmp-IsAntisymmetric P.occurrences (added_of parts).occurrences apart
      ∙ ap (λ n. len P.occurrences + n) (len_rows occurrence_cmp_total occurrence_cmp-IsAntisymmetric parts.occurrences.items (rows_apart occurrence_cmp_total occurrence_cmp-IsAntisymmetric parts.occurrences.items are.occurrences))

  operations_counted : len Q.operations ≡ length ks
  operations_counted = len-entries Q.operations ∙ sym (length-map (entries Q.operations) (λ (row : OpKey × Operation). row.0)) ∙ ap length (sym keyed)

  pub within_limits : HasRoomFor P (length parts.occurrences.items) (length ks) (length pairs) → IsWithinLimits Q
  within_limits room =
      let limits = valid.limits in
      record {
        workstations = limits.workstations;
        resources = limits.resources;
        occurrences = let few = room.occurrences in omega (arith, few, occurrences_counted);
        operations = let few = room.operations in omega (arith, few, operations_counted);
        pairs = let few = room.pairs in omega (arith, few, pairs_counted Q.pairs pairs paired up);
      }

  pub has_room : IsWithinLimits Q → HasRoomFor P (length parts.occurrences.items) (length ks) (length pairs)
  has_room limits = record {
    occurrences = let few = limits.occurrences in omega (arith, few, occurrences_counted);
    operations = let few = limits.operations in omega (arith, few, operations_counted);
    pairs = let few = limits.pairs in omega (arith, few, pairs_counted Q.pairs pairs paired up);
  }
