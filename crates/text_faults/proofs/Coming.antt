-- The items of records without a fault come in together, of an addition one occurrence.
use Rattle.std.proofs.Common.{◌≡◌, ◌≢◌, ◌⊎◌, inl, inr, refl, sym, ap, subst, ◌∙◌, true≢false, arith, ℕ, zero, suc, ◌+◌, ◌<◌, ◌≤◌, true, false, cond, List, [], ◌∷◌, length, map, get_or, slice_get, All, Contains, Option, Some, None}
use Rattle.std.specs.List.{AllPairs}
use Rattle.std.specs.Cmp.{IsTotalOrder}
use Rattle.std.specs.FinMap.{IsAntisymmetric}
use Rattle.std.specs.Ordering.{eq_by_cmp}
use Rattle.std.specs.Map.{keys_of}
use Rattle.std.specs.declared.cmp.Ordering.{Ordering}
use Rattle.std.proofs.lemmas.Bool.{cases_lt}
use Rattle.std.proofs.lemmas.Option.{none-some, same_Some, slice_get-get_or}
use Rattle.std.proofs.lemmas.List.Elements.{All-contains_itself}
use Rattle.plan_basics.proofs.Members.{tied_is, all_by_members, at_place, place_of, contains_head, contains_later, contains_cases, contains_none}
use Rattle.plan_basics.specs.Keys.{occurrence_cmp_total, occurrence_cmp-IsAntisymmetric, operation_cmp_total, operation_cmp-IsAntisymmetric}
use Rattle.plan_basics.specs.declared.keys.OccKey.{OccKey}
use Rattle.plan_basics.specs.declared.keys.OpKey.{OpKey}
use Rattle.plan_basics.specs.declared.limits.TheConstants.{MOST_NEEDS}
use Rattle.special_resources.specs.declared.Need.{Need}
use Rattle.plan_items.specs.declared.Item.{Item}
use Rattle.plan_items.specs.declared.Item.TheVariants as item
use Rattle.plan_items.specs.declared.OperationItem.{OperationItem}
use Rattle.plan_items.specs.Items.{Fields}
use Rattle.plan_drafts.specs.plan_model.specs.declared.Occurrence.{Occurrence}
use Rattle.plan_drafts.specs.declared.RowKey.{RowKey}
use Rattle.plan_drafts.specs.declared.RowKey.TheVariants as key
use Rattle.plan_drafts.specs.Records.{key_of}
use Rattle.plan_drafts.specs.PlanItems.{BelongsTo, as_occurrence, keys_said, needs_of, occurrence_of}
use Rattle.plan_drafts.specs.ExtensionItems.{MayComeIn, AreTheirOperations, IsNeedOf, AreNewNeeds, IsEndAmong, IsPairAmong, ArePairsAmong, ComeInTogether}
use Rattle.plan_drafts.proofs.Lists.{Differ, differ_from_pairs, differ_filter, in_map, from_filter}
use Rattle.plan_drafts.proofs.Tables.{itself}
use Rattle.record_faults.specs.plan_denotation.proofs.ItemKinds as kinds
use Rattle.record_faults.specs.plan_denotation.proofs.ItemKinds.{occurrences_in, operations_in, needs_in, pairs_in, key_in, key_out, read_stands, read_distinct}
use Rattle.record_faults.specs.declared.faults.Fault.{Fault}
use Rattle.record_faults.specs.declared.faults.Fault.TheVariants as fault
use Rattle.record_faults.specs.declared.groups.Group.{Group}
use Rattle.record_faults.specs.declared.groups.Group.TheVariants as group
use Rattle.record_faults.specs.contracts.groups.GroupOrd.TheImpl.Laws as group_laws
use Rattle.record_faults.specs.Sayings.{Sayings, SaysAt, owner_of, owned, given, IsGiven, IsFirst, IsNowhere}
use Rattle.record_faults.specs.Groups.{is_of, count_of}
use Rattle.record_faults.specs.Faults.{IsFaultAt}
use Rattle.record_faults.proofs.Denoted.{says_put, given_get, given_put}
use Rattle.record_faults.proofs.GroupOrder.{exact}
use Rattle.record_faults.proofs.Limits.{groups_in, count_occurrences, count_needs}
use Rattle.text_faults.specs.declared.additions.faults.AddedText.{AddedText}
use Rattle.text_faults.specs.declared.additions.faults.AddedText.TheVariants as text
use Rattle.text_faults.specs.declared.additions.faults.AddedFault.{AddedFault}
use Rattle.text_faults.specs.declared.additions.faults.AddedFault.TheVariants as of_added
use Rattle.text_faults.specs.AddedFaults.{SaysOccurrence, IsOwn, IsJudged, IsFaultHere}

-- ---- what can be told apart
module _ {K : Type 0} {R : K → K → Ordering} (total : IsTotalOrder R) (exactly : IsAntisymmetric R) where
  same_or : (a b : K) → (a ≡ b) ⊎ ¬ (a ≡ b)
  same_or a b = elim (eq_by_cmp R a b) as (λ v. eq_by_cmp R a b ≡ v → (a ≡ b) ⊎ ¬ (a ≡ b)) [
    | true ↦ λ t. inl (tied_is exactly a b t)
    | false ↦ λ t. inr (λ e. true≢false (sym (itself total exactly a) ∙ ap (λ z. eq_by_cmp R a z) e ∙ t))
  ] refl

  in_or : (xs : List K) (k : K) → Contains xs k ⊎ ¬ Contains xs k
  in_or [] k = inr (λ has. contains_none k has)
  in_or (x ∷ xs) k = elim (same_or x k) [
    | inl same ↦ inl (subst (Contains (x ∷ xs)) same (contains_head x xs))
    | inr other ↦ elim (in_or xs k) [
      | inl has ↦ inl (contains_later x xs k has)
      | inr none ↦ inr (λ has. elim (contains_cases x xs k has) [ inl same ↦ other same | inr later ↦ none later ])
    ]
  ]

-- where some places are of a group, one is the first
first_of : (g : Group) (groups : List (Option Group)) → 0 < count_of g groups → (p : ℕ) × IsFirst groups g p
first_of g [] some = absurd (omega (arith, some))
first_of g (o ∷ groups) some = elim (is_of g o) as (λ b. is_of g o ≡ b → (p : ℕ) × IsFirst (o ∷ groups) g p) [
  | true ↦ λ t. (0, record { here = ap Some (of_group o t); none_before = λ i lt. absurd (omega (arith, lt)) })
  | false ↦ λ t.
      let more : 0 < 0 + count_of g groups = subst (λ b. 0 < cond b 1 0 + count_of g groups) t some in
      let later = first_of g groups (omega (arith, more)) in
      (suc later.0, record { here = later.1.here; none_before = before t later.0 later.1 })
] refl
  where
    of_group : (p : Option Group) → is_of g p ≡ true → p ≡ Some g
    of_group None t = absurd (true≢false (sym t))
    of_group (Some h) t = ap Some (tied_is exact h g t)

    before : is_of g o ≡ false → (p : ℕ) → IsFirst groups g p → (i : ℕ) → i < suc p → ¬ IsGiven (o ∷ groups) g i
    before t p first zero lt e = let same : o ≡ Some g = same_Some o (Some g) e in true≢false (sym (itself group_laws.total-law exact g) ∙ ap (is_of g) (sym same) ∙ t)
    before t p first (suc i) lt e = first.none_before i (omega (arith, lt)) e

-- the operation whose occurrence is given at a place
of_owner : (x : Item) (k : RowKey) → owner_of x ≡ Some k → (o : OperationItem) × (x ≡ item.Operation o) × (key.Occurrence o.key.occurrence ≡ k)
of_owner (item.Operation o) k e = (o, refl, same_Some (key.Occurrence o.key.occurrence) k e)
of_owner x k e = absurd (none-some k e)

owned_get : (items : List Item) (place : ℕ) (k : RowKey) → IsGiven (owned (map Some items)) k place → (o : OperationItem) × (slice_get items place ≡ Some (item.Operation o)) × (key.Occurrence o.key.occurrence ≡ k)
owned_get [] place k e = absurd (none-some (Some k) e)
owned_get (x ∷ xs) zero k e = let o = of_owner x k (same_Some (owner_of x) (Some k) e) in (o.0, ap Some o.1, o.2)
owned_get (x ∷ xs) (suc place) k e = owned_get xs place k e

module _ (added : AddedText) (records : List Fields) (items : List Item) (none : (place : ℕ) (k : AddedFault) → ¬ IsFaultHere added records (map Some items) place k) where
  abbrev Said : Sayings
  Said = map Some items

  abbrev Given : List (Option RowKey)
  Given = given Said

  abbrev Occurrences : List OccKey
  Occurrences = keys_of (occurrences_in items)

  abbrev Keys : List OpKey
  Keys = keys_said (operations_in items)

  of_record : (place : ℕ) (f : Fault) → IsJudged added Said place f → ¬ IsFaultAt records Said place f
  of_record place f j h = none place (of_added.OfRecord f) (h, j)

  -- ---- all may come in
  may_come : (x : Item) (place : ℕ) → slice_get items place ≡ Some x → MayComeIn x
  may_come (item.Workstation w a) place at = absurd (none place of_added.NotAdded (item.Workstation w a, says_put items place (item.Workstation w a) at, λ h. h))
  may_come (item.Interval w i) place at = absurd (none place of_added.NotAdded (item.Interval w i, says_put items place (item.Interval w i) at, λ h. h))
  may_come (item.Resource r a q) place at = absurd (none place of_added.NotAdded (item.Resource r a q, says_put items place (item.Resource r a q) at, λ h. h))
  may_come _ place at = tt

  may : All MayComeIn items
  may = all_by_members MayComeIn items (λ x has. let at = place_of items x has in may_come x at.0 at.1)

  -- ---- no two have one key
  never_before : (n : ℕ) (k : RowKey) (j : ℕ) → IsGiven Given k j → (i : ℕ) → i < n → i < j → ¬ IsGiven Given k i
  never_before zero k j at_j i lt before at = omega (arith, lt)
  never_before (suc n) k j at_j i lt before at =
      let first : IsFirst Given k i = record { here = at; none_before = λ m less. never_before n k j at_j m (omega (arith, lt, less)) (omega (arith, before, less)) } in
      of_record j (fault.Repeated k i) tt (inl (inr (inl (at_j, first, before))))

  pub distinct : AllPairs (λ a b. key_of a ≢ key_of b) items
  distinct i j d lt within same =
      let at_i = given_put items i (get_or items i d) (slice_get-get_or items i d (omega (arith, lt, within))) in
      let at_j = given_put items j (get_or items j d) (slice_get-get_or items j d within) in
      never_before (suc i) (key_of (get_or items j d)) j at_j i (omega arith) lt (subst (λ k. IsGiven Given k i) same at_i)

  -- ---- of an addition one occurrence
  module _ (is : added ≡ text.Addition) where
    never_two : (n j : ℕ) → SaysOccurrence Said j → (i : ℕ) → i < n → i < j → ¬ SaysOccurrence Said i
    never_two zero j at_j i lt before at = omega (arith, lt)
    never_two (suc n) j at_j i lt before at =
        none j (of_added.AnotherOccurrence i) (is, at_j, (at, λ m less. never_two n j at_j m (omega (arith, lt, less)) (omega (arith, before, less))), before)

    says_occurrence : (place : ℕ) (x : Item) (y : OccKey × Occurrence) → slice_get items place ≡ Some x → as_occurrence x ≡ Some y → SaysOccurrence Said place
    says_occurrence place (item.Occurrence c p t) y at e = (c, p, t, says_put items place (item.Occurrence c p t) at)
    says_occurrence place x y at e = absurd (none-some y e)

    abbrev NoTwo : Item → Item → Type 0
    NoTwo a b = (y z : OccKey × Occurrence) → as_occurrence a ≡ Some y → as_occurrence b ≡ Some z → ⊥

    no_two : AllPairs NoTwo items
    no_two i j d lt within y z e f =
        let at_i = says_occurrence i (get_or items i d) y (slice_get-get_or items i d (omega (arith, lt, within))) e in
        let at_j = says_occurrence j (get_or items j d) z (slice_get-get_or items j d within) f in
        never_two (suc i) j at_j i (omega arith) lt at_i

    some_occurrence : 0 < length (occurrences_in items)
    some_occurrence = elim (cases_lt 0 (length (occurrences_in items))) [
      | inl some ↦ some
      | inr le ↦ absurd (of_record (length Said) (fault.Missing group.Occurrences) is (inr (inr (refl, refl, omega (arith, count_occurrences items, le)))))
    ]

    pub one_occurrence : length (occurrences_in items) ≡ 1
    one_occurrence = of (occurrences_in items) (differ_filter as_occurrence NoTwo (λ y z. ⊥) (λ a b y z e f no. no y z e f) items (differ_from_pairs NoTwo items no_two)) some_occurrence
      where
        of : (xs : List (OccKey × Occurrence)) → Differ (λ y z. ⊥) xs → 0 < length xs → length xs ≡ 1
        of [] apart some = absurd (omega (arith, some))
        of (y ∷ []) apart some = refl
        of (y ∷ z ∷ ys) apart some = absurd (apart.0 0 z (omega arith))

  -- ---- all of it
  by_own : (o : OpKey) → IsOwn Said o → Contains Occurrences o.occurrence
  by_own o own = let x = given_get items own.0 (key.Occurrence o.occurrence) own.1 in key_in kinds.occurrences items o.occurrence (x.0, at_place items own.0 x.0 x.1, x.2)

  own_by : (o : OpKey) → Contains Occurrences o.occurrence → IsOwn Said o
  own_by o has =
      let x = key_out kinds.occurrences items o.occurrence has in
      let at = place_of items x.0 x.1 in
      (at.0, subst (λ k. IsGiven Given k at.0) x.2 (given_put items at.0 x.0 at.1))

  -- what no item says is nowhere
  no_operation : (o : OpKey) → ¬ Contains Keys o → IsNowhere Given (key.Operation o)
  no_operation o never i e = let x = given_get items i (key.Operation o) e in never (key_in kinds.operations items o (x.0, at_place items i x.0 x.1, x.2))

  no_occurrence : (d : OccKey) → ¬ Contains Occurrences d → IsNowhere Given (key.Occurrence d)
  no_occurrence d never i e = let x = given_get items i (key.Occurrence d) e in never (key_in kinds.occurrences items d (x.0, at_place items i x.0 x.1, x.2))

  -- ---- operations
  operation_item : (o : OperationItem) → Contains (operations_in items) o → Contains items (item.Operation o)
  operation_item o has = read_stands kinds.operations (Contains items) items (All-contains_itself items) o has

  own_occurrence : (o : OperationItem) → Contains (operations_in items) o → Contains Occurrences o.key.occurrence
  own_occurrence o has = elim (in_or occurrence_cmp_total occurrence_cmp-IsAntisymmetric Occurrences o.key.occurrence) [
    | inl there ↦ there
    | inr other ↦
        let at = place_of items (item.Operation o) (operation_item o has) in
        absurd (of_record at.0 (fault.Undefined (key.Occurrence o.key.occurrence)) tt (inl (inr (inr (inr (inr (inl (item.Operation o, says_put items at.0 (item.Operation o) at.1, refl, no_occurrence o.key.occurrence other))))))))
  ]

  few_needs : (o : OpKey) → length (needs_of o (needs_in items)) ≤ MOST_NEEDS
  few_needs o = elim (cases_lt MOST_NEEDS (count_of (group.NeedsOf o) (groups_in items))) [
    | inr le ↦ omega (arith, count_needs o items, le)
    | inl more ↦
        let first = first_of (group.NeedsOf o) (groups_in items) (omega (arith, more)) in
        absurd (of_record first.0 (fault.TooMany (group.NeedsOf o) (count_of (group.NeedsOf o) (groups_in items))) tt (inl (inr (inr (inr (inr (inr (inr (inl (first.1, refl, more))))))))))
  ]

  -- where no operation is of an occurrence, no record says one of it
  unowned : (c : OccKey) → ¬ Contains (map occurrence_of Keys) c → IsNowhere (owned Said) (key.Occurrence c)
  unowned c never i e =
      let o = owned_get items i (key.Occurrence c) e in
      let same : o.0.key.occurrence ≡ c = cc o.2 in
      let there = key_in kinds.operations items o.0.key (item.Operation o.0, at_place items i (item.Operation o.0) o.1, refl) in
      never (subst (Contains (map occurrence_of Keys)) same (in_map occurrence_of Keys o.0.key there))

  has_operation : (y : OccKey × Occurrence) → Contains (occurrences_in items) y → Contains (map occurrence_of Keys) y.0
  has_operation y has = elim (in_or occurrence_cmp_total occurrence_cmp-IsAntisymmetric (map occurrence_of Keys) y.0) [
    | inl there ↦ there
    | inr never ↦
        let x = from_filter as_occurrence items y has in
        let at = place_of items x.0 x.1 in
        absurd (of_record at.0 fault.NoOperation tt (inl (inr (inr (inr (inr (inr (inl (y.0, subst (λ k. IsGiven Given k at.0) (of_row x.0 x.2) (given_put items at.0 x.0 at.1), unowned y.0 never)))))))))
  ]
    where
      of_row : (z : Item) → as_occurrence z ≡ Some y → key_of z ≡ key.Occurrence y.0
      of_row (item.Occurrence d p t) f = ap (λ (v : OccKey × Occurrence). key.Occurrence v.0) (same_Some (d, record { priority = p; deadline = t }) y f)
      of_row z f = absurd (none-some y f)

  operations : AreTheirOperations (occurrences_in items) (needs_in items) (operations_in items)
  operations = record {
    belong = all_by_members (BelongsTo (occurrences_in items) (needs_in items)) (operations_in items) (λ o has. record { occurrence = own_occurrence o has; few_needs = few_needs o.key });
    distinct = read_distinct kinds.operations items distinct;
    not_empty = all_by_members (λ (y : OccKey × Occurrence). Contains (map occurrence_of Keys) y.0) (occurrences_in items) has_operation;
  }

  -- ---- needs
  need_item : (y : OpKey × Need) → Contains (needs_in items) y → Contains items (item.Need y.0 y.1)
  need_item y has = read_stands kinds.needs (Contains items) items (All-contains_itself items) y has

  need_within : (y : OpKey × Need) → Contains (needs_in items) y → Contains Keys y.0
  need_within y has = elim (in_or operation_cmp_total operation_cmp-IsAntisymmetric Keys y.0) [
    | inl there ↦ there
    | inr never ↦
        let at = place_of items (item.Need y.0 y.1) (need_item y has) in
        let says = says_put items at.0 (item.Need y.0 y.1) at.1 in
        absurd (of_record at.0 (fault.Undefined (key.Operation y.0)) (inl (y.1, says)) (inl (inr (inr (inr (inl (item.Need y.0 y.1, says, refl, no_operation y.0 never)))))))
  ]

  needs : AreNewNeeds Keys (needs_in items)
  needs = record { within = all_by_members (IsNeedOf Keys) (needs_in items) need_within; distinct = read_distinct kinds.needs items distinct }

  -- ---- pairs
  pair_item : (y : OpKey × OpKey) → Contains (pairs_in items) y → Contains items (item.Dependency y.0 y.1)
  pair_item y has = read_stands kinds.pairs (Contains items) items (All-contains_itself items) y has

  module _ (y : OpKey × OpKey) (has : Contains (pairs_in items) y) where
    at : (i : ℕ) × (slice_get items i ≡ Some (item.Dependency y.0 y.1))
    at = place_of items (item.Dependency y.0 y.1) (pair_item y has)

    says : SaysAt Said at.0 (item.Dependency y.0 y.1)
    says = says_put items at.0 (item.Dependency y.0 y.1) at.1

    own : Contains Occurrences y.0.occurrence ⊎ Contains Occurrences y.1.occurrence
    own = elim (in_or occurrence_cmp_total occurrence_cmp-IsAntisymmetric Occurrences y.0.occurrence) [
      | inl first ↦ inl first
      | inr other ↦ elim (in_or occurrence_cmp_total occurrence_cmp-IsAntisymmetric Occurrences y.1.occurrence) [
        | inl second ↦ inr second
        | inr another ↦ absurd (none at.0 of_added.Elsewhere (y.0, y.1, says, (λ h. other (by_own y.0 h)), (λ h. another (by_own y.1 h))))
      ]
    ]

    first : IsEndAmong Occurrences Keys y.0
    first there = elim (in_or operation_cmp_total operation_cmp-IsAntisymmetric Keys y.0) [
      | inl has_key ↦ has_key
      | inr never ↦ absurd (of_record at.0 (fault.Undefined (key.Operation y.0)) (inr (own_by y.0 there)) (inl (inr (inr (inr (inl (item.Dependency y.0 y.1, says, refl, no_operation y.0 never)))))))
    ]

    second : IsEndAmong Occurrences Keys y.1
    second there = elim (in_or operation_cmp_total operation_cmp-IsAntisymmetric Keys y.1) [
      | inl has_key ↦ has_key
      | inr never ↦ absurd (of_record at.0 (fault.Undefined (key.Operation y.1)) (inr (own_by y.1 there)) (inl (inr (inr (inr (inr (inl (item.Dependency y.0 y.1, says, refl, no_operation y.1 never))))))))
    ]

    among : IsPairAmong Occurrences Keys y
    among = record { own = own; first = first; second = second }

  pairs : ArePairsAmong Occurrences Keys (pairs_in items)
  pairs = record { among = all_by_members (IsPairAmong Occurrences Keys) (pairs_in items) among; distinct = read_distinct kinds.pairs items distinct }

  pub come : ComeInTogether items
  come = record { may = may; occurrences = read_distinct kinds.occurrences items distinct; operations = operations; needs = needs; pairs = pairs }
