-- Records without a fault of which no path of dependencies returns denote a plan.
use Rattle.std.proofs.Common.{◌≡◌, ◌≢◌, ◌⊎◌, inl, inr, refl, sym, ap, subst, ◌∙◌, true≢false, arith, ℕ, zero, suc, ◌+◌, ◌<◌, ◌≤◌, true, false, cond, List, [], ◌∷◌, length, map, get_or, slice_get, All, Contains, Option, Some, None}
use Rattle.std.specs.List.{AllPairs}
use Rattle.std.specs.Map.{keys_of}
use Rattle.std.specs.FinMap.{IsAntisymmetric}
use Rattle.std.specs.FinSet.{from_list}
use Rattle.std.specs.Cmp.{IsTotalOrder}
use Rattle.std.specs.Ordering.{eq_by_cmp}
use Rattle.std.specs.declared.cmp.Ordering.{Ordering}
use Rattle.std.proofs.lemmas.Bool.{cases_lt}
use Rattle.std.proofs.lemmas.Option.{none-some, same_Some, get_or_from_slice_get, slice_get-get_or, slice_get_within}
use Rattle.plan_basics.proofs.Members.{tied_is, all_by_members, at_place, place_of, contains_head, contains_later}
use Rattle.plan_basics.specs.Intervals.{OpenInterval, AreApart}
use Rattle.plan_basics.specs.Keys.{Name, name_cmp_total, name_cmp-IsAntisymmetric}
use Rattle.plan_basics.specs.declared.keys.OccKey.{OccKey}
use Rattle.plan_basics.specs.declared.keys.OpKey.{OpKey}
use Rattle.operation_graph.specs.Paths.{LeadsBy, by_edge, by_more}
use Rattle.plan_model.specs.Contents.{pair_cmp, IsPairOf}
use Rattle.plan_model.specs.Valid.{IsAcyclic}
use Rattle.plan_model.specs.declared.Occurrence.{Occurrence}
use Rattle.plan_items.specs.declared.Item.{Item}
use Rattle.plan_items.specs.declared.Item.TheVariants as item
use Rattle.plan_items.specs.declared.OperationItem.{OperationItem}
use Rattle.plan_items.specs.Items.{Fields, IsItem, Says}
use Rattle.plan_drafts.specs.declared.RowKey.{RowKey}
use Rattle.plan_drafts.specs.declared.RowKey.TheVariants as key
use Rattle.plan_drafts.specs.contracts.RowKeyOrd.TheImpl.Laws as laws
use Rattle.plan_drafts.specs.RowKeys.{derived_exact}
use Rattle.plan_drafts.specs.Records.{key_of}
use Rattle.plan_drafts.specs.PlanItems.{CanBeLoaded, AreWorkstations, AreResources, AreOccurrenceRows, AreOperations, AreNeeds, ArePairs, Fits, IsNeedIn, IsWithinStock, IsPairIn, CanOpen, IsOpening, as_interval, as_operation, own_interval, intervals_of, keys_said, occurrence_of}
use Rattle.plan_drafts.proofs.Lists.{differ_from_pairs, pairs_from_differ, differ_filter, in_filter, in_map}
use Rattle.plan_drafts.proofs.Tables.{itself, from_set}
use Rattle.plan_drafts.proofs.Pairs.{pair_cmp_total, pair_cmp-IsAntisymmetric}
use Rattle.plan_drafts.proofs.Keyed.{own_from}
use Rattle.plan_denotation.proofs.Denoting.{items_legal}
use Rattle.plan_denotation.proofs.ItemKinds as kinds
use Rattle.plan_denotation.proofs.ItemKinds.{workstations_in, intervals_in, resources_in, occurrences_in, operations_in, needs_in, pairs_in, key_in, key_out, read_stands, read_distinct}
use Rattle.record_faults.specs.declared.kinds.Kind.{Kind}
use Rattle.record_faults.specs.declared.kinds.Form.TheVariants as form
use Rattle.record_faults.specs.declared.kinds.Shape.{Shape}
use Rattle.record_faults.specs.declared.kinds.Shape.TheVariants as shape
use Rattle.record_faults.specs.declared.faults.Fault.{Fault}
use Rattle.record_faults.specs.declared.faults.Fault.TheVariants as fault
use Rattle.record_faults.specs.declared.names.Naming.{Naming}
use Rattle.record_faults.specs.declared.names.Naming.TheVariants.{First, Second}
use Rattle.record_faults.specs.declared.groups.Group.{Group}
use Rattle.record_faults.specs.declared.groups.Group.TheVariants as group
use Rattle.record_faults.specs.contracts.groups.GroupOrd.TheImpl.Laws as group_laws
use Rattle.record_faults.specs.Shapes.{forms_of, text_at, AreRead, IsOfKind, IsShapeFault, Reads}
use Rattle.record_faults.specs.Sayings.{Sayings, SaysOrNot, AreSayings, owned, owner_of, given, IsGiven, IsFirst, IsNowhere}
use Rattle.record_faults.specs.Groups.{is_of, most_of, count_of}
use Rattle.record_faults.specs.Circles.{StandsAt, JoinsGiven, NoCircle}
use Rattle.record_faults.specs.Plans.{SaySome}
use Rattle.record_faults.specs.Faults.{name_of, need_said, resource_said, DoOverlap, OverlapAt, IsUndefined, IsMissing, IsFaultAt}
use Rattle.record_faults.proofs.Forms.{says, nine, read_more}
use Rattle.record_faults.proofs.GroupOrder.{exact}
use Rattle.record_faults.proofs.Limits.{groups_in, count_workstations, count_intervals, count_resources, count_occurrences, count_operations, count_pairs, count_needs}
use Rattle.record_faults.proofs.Telling.{zip_at, zip_length}
use Rattle.record_faults.proofs.Denoted.{said_all, says_put, given_get, given_put, workstations_count, occurrences_there}
use Rattle.record_faults.proofs.Loading.{loaded}

-- ---- a record that says nothing has a fault
module _ (fields : Fields) (never : (x : Item) → ¬ Says fields x) (none : (s : Shape) → ¬ IsShapeFault fields s) where
  ten : length fields ≡ 10
  ten = elim (cases_lt (length fields) 10) [
    | inl less ↦ absurd (none (shape.Length (length fields)) (refl, λ e. omega (arith, less, e)))
    | inr le ↦ elim (cases_lt 10 (length fields)) [ inl more ↦ absurd (none (shape.Length (length fields)) (refl, λ e. omega (arith, more, e))) | inr other ↦ omega (arith, le, other) ]
  ]

  module _ (k : Kind) (is : IsOfKind k fields) where
    -- as many fields as there are may be said to be of their forms
    may_read : (n : ℕ) → n ≤ 9 → ¬ ¬ AreRead (forms_of k) n fields
    may_read zero le never_read = never_read (λ i f lt. absurd (omega (arith, lt)))
    may_read (suc n) le never_read = may_read n (omega (arith, le)) (λ read.
        let here : slice_get (forms_of k) n ≡ Some (get_or (forms_of k) n form.Empty) = slice_get-get_or (forms_of k) n form.Empty (omega (arith, le, nine k)) in
        let f = get_or (forms_of k) n form.Empty in
        none (shape.Field k n f) (
          is,
          record {
            form = here;
            earlier = read;
            unread = λ reads.
                let next : suc n ≡ n + 1 = omega arith in
                never_read (subst (λ m. AreRead (forms_of k) m fields) (sym next) (read_more (forms_of k) n fields read (λ g e. subst (λ z. Reads z (text_at fields (n + 1))) (same_Some f g (sym here ∙ e)) reads)));
          },
        ))

    no_kind : ⊥
    no_kind = may_read 9 (omega arith) (λ read. elim (says fields k is read) [
      | inl said ↦ never said.0 said.1
      | inr other ↦ elim other [
        | inl early ↦ none shape.EndsEarly (subst (λ z. IsOfKind z fields) early.0 is, early.1, subst (λ z. AreRead (forms_of z) 9 fields) early.0 read)
        | inr more ↦ none shape.ExclusiveAmount (subst (λ z. IsOfKind z fields) more.0 is, more.1, subst (λ z. AreRead (forms_of z) 9 fields) more.0 read)
      ]
    ])

  pub some_shape : ⊥
  some_shape = none shape.UnknownKind (ten, λ k e. no_kind k (ten, e))

-- ---- what is found in a list of places
module _ {K : Type 0} {R : K → K → Ordering} (total : IsTotalOrder R) (exactly : IsAntisymmetric R) where
  -- past a place that doesn't give the key
  later : (o : Option K) (keys : List (Option K)) (k : K) (i : ℕ) → ¬ (o ≡ Some k) → IsFirst keys k i → IsFirst (o ∷ keys) k (suc i)
  later o keys k i other first = record { here = first.here; none_before = before }
    where
      before : (j : ℕ) → j < suc i → ¬ IsGiven (o ∷ keys) k j
      before zero lt e = other (same_Some o (Some k) e)
      before (suc j) lt e = first.none_before j (omega (arith, lt)) e

  past_all : (o : Option K) (keys : List (Option K)) (k : K) → ¬ (o ≡ Some k) → IsNowhere keys k → IsNowhere (o ∷ keys) k
  past_all o keys k other nowhere zero e = other (same_Some o (Some k) e)
  past_all o keys k other nowhere (suc i) e = nowhere i e

  abbrev Looked : List (Option K) → K → Type 0
  Looked keys k = ((i : ℕ) × IsFirst keys k i) ⊎ IsNowhere keys k

  past : (o : Option K) (keys : List (Option K)) (k : K) → ¬ (o ≡ Some k) → Looked keys k → Looked (o ∷ keys) k
  past o keys k other (inl first) = inl (suc first.0, later o keys k first.0 other first.1)
  past o keys k other (inr nowhere) = inr (past_all o keys k other nowhere)

  -- a key is given first at some place, or nowhere
  look : (keys : List (Option K)) (k : K) → Looked keys k
  look [] k = inr (λ i e. none-some (Some k) e)
  look (None ∷ keys) k = past None keys k (λ e. none-some k e) (look keys k)
  look (Some q ∷ keys) k = elim (eq_by_cmp R q k) as (λ b. eq_by_cmp R q k ≡ b → Looked (Some q ∷ keys) k) [
    | true ↦ λ t. inl (0, record { here = ap (λ z. Some (Some z)) (tied_is exactly q k t); none_before = λ i lt. absurd (omega (arith, lt)) })
    | false ↦ λ t. past (Some q) keys k (λ e. let same : q ≡ k = same_Some q k e in true≢false (sym (itself total exactly q) ∙ ap (λ z. eq_by_cmp R q z) same ∙ t)) (look keys k)
  ] refl

-- where some places are of a group, one is the first
first_of : (g : Group) (groups : List (Option Group)) → 0 < count_of g groups → (p : ℕ) × IsFirst groups g p
first_of g [] some = absurd (omega (arith, some))
first_of g (o ∷ groups) some = elim (is_of g o) as (λ b. is_of g o ≡ b → (p : ℕ) × IsFirst (o ∷ groups) g p) [
  | true ↦ λ t. (0, record { here = ap Some (of_group o t); none_before = λ i lt. absurd (omega (arith, lt)) })
  | false ↦ λ t.
      let more : 0 < 0 + count_of g groups = subst (λ b. 0 < cond b 1 0 + count_of g groups) t some in
      let later = first_of g groups (omega (arith, more)) in
      (suc later.0, record { here = later.1.here; none_before = before t later.0 later.1 })
] refl
  where
    of_group : (p : Option Group) → is_of g p ≡ true → p ≡ Some g
    of_group None t = absurd (true≢false (sym t))
    of_group (Some h) t = ap Some (tied_is exact h g t)

    before : is_of g o ≡ false → (p : ℕ) → IsFirst groups g p → (i : ℕ) → i < suc p → ¬ IsGiven (o ∷ groups) g i
    before t p first zero lt e = let same : o ≡ Some g = same_Some o (Some g) e in true≢false (sym (itself group_laws.total-law exact g) ∙ ap (is_of g) (sym same) ∙ t)
    before t p first (suc i) lt e = first.none_before i (omega (arith, lt)) e

-- paths of some edges are paths of others that have them all
lifted : {K : Type 0} {E F : K → K → Type 0} → ((a b : K) → E a b → F a b) → {a b : K} → LeadsBy E a b → LeadsBy F a b
lifted f {a} {b} (by_edge e) = by_edge (f a b e)
lifted f {a} (by_more {b = q} e rest) = by_more (f a q e) (lifted f rest)

-- ---- no two have one key
module _ (records : List Fields) (items : List Item) (none : (place : ℕ) (f : Fault) → ¬ IsFaultAt records (map Some items) place f) where
  abbrev Said : Sayings
  Said = map Some items

  abbrev Keys : List (Option RowKey)
  Keys = given Said

  never_before : (n : ℕ) (k : RowKey) (j : ℕ) → IsGiven Keys k j → (i : ℕ) → i < n → i < j → ¬ IsGiven Keys k i
  never_before zero k j at_j i lt before at = omega (arith, lt)
  never_before (suc n) k j at_j i lt before at =
      let first : IsFirst Keys k i = record { here = at; none_before = λ m less. never_before n k j at_j m (omega (arith, lt, less)) (omega (arith, before, less)) } in
      none j (fault.Repeated k i) (inl (inr (inl (at_j, first, before))))

  distinct : AllPairs (λ a b. key_of a ≢ key_of b) items
  distinct i j d lt within same =
      let at_i = given_put items i (get_or items i d) (slice_get-get_or items i d (omega (arith, lt, within))) in
      let at_j = given_put items j (get_or items j d) (slice_get-get_or items j d within) in
      never_before (suc i) (key_of (get_or items j d)) j at_j i (omega arith) lt (subst (λ k. IsGiven Keys k i) same at_i)

  -- ---- what is named is defined
  abbrev Defined : RowKey → Type 0
  Defined k = (y : Item) × Contains items y × (key_of y ≡ k)

  defined : (naming : Naming) (x : Item) → Contains items x → (k : RowKey) → name_of naming x ≡ Some k → Defined k
  defined naming x has k named = elim (look laws.total-law derived_exact Keys k) [
    | inl there ↦ let y = given_get items there.0 k there.1.here in (y.0, at_place items there.0 y.0 y.1, y.2)
    | inr nowhere ↦ let at = place_of items x has in absurd (none at.0 (fault.Undefined k) (undefined naming at.0 k (x, says_put items at.0 x at.1, named, nowhere)))
  ]
    where
      undefined : (n : Naming) (place : ℕ) (q : RowKey) → IsUndefined n Said place (fault.Undefined q) → IsFaultAt records Said place (fault.Undefined q)
      undefined First place q h = inl (inr (inr (inr (inl h))))
      undefined Second place q h = inl (inr (inr (inr (inr (inl h)))))

  abbrev NamesDefined : Naming → Item → Type 0
  NamesDefined naming x = (k : RowKey) → name_of naming x ≡ Some k → Defined k

  all_defined : (naming : Naming) → All (NamesDefined naming) items
  all_defined naming = all_by_members (NamesDefined naming) items (λ x has. defined naming x has)

  -- ---- the limits
  limit : (g : Group) → count_of g (groups_in items) ≤ most_of g
  limit g = elim (cases_lt (most_of g) (count_of g (groups_in items))) [
    | inr le ↦ le
    | inl more ↦
        let first = first_of g (groups_in items) (omega (arith, more)) in
        absurd (none first.0 (fault.TooMany g (count_of g (groups_in items))) (inl (inr (inr (inr (inr (inr (inr (inl (first.1, refl, more))))))))))
  ]

  some_of : (g : Group) → (IsMissing g Said (length Said) (fault.Missing g) → IsFaultAt records Said (length Said) (fault.Missing g)) → 0 < count_of g (groups_in items)
  some_of g is = elim (cases_lt 0 (count_of g (groups_in items))) [ inl some ↦ some | inr le ↦ absurd (none (length Said) (fault.Missing g) (is (refl, refl, omega (arith, le)))) ]

  -- ---- intervals
  never_overlap : (n i j : ℕ) → j ≤ i + n → i < j → ¬ OverlapAt Said i j
  never_overlap zero i j within lt h = omega (arith, within, lt)
  never_overlap (suc n) i j within lt h = none j (fault.Overlaps i) (inl (inr (inr (inl (lt, h, λ m after before. never_overlap n m j (omega (arith, within, after)) before)))))

  put_some : (xs : List Item) (i : ℕ) (d : Item) → i < length xs → get_or {A = Option Item} (map Some xs) i None ≡ Some (get_or xs i d)
  put_some [] i d lt = absurd (omega arith)
  put_some (x ∷ xs) zero d lt = refl
  put_some (x ∷ xs) (suc i) d lt = put_some xs i d (omega (arith, lt))

  abbrev NoOverlap : Item → Item → Type 0
  NoOverlap a b = ¬ DoOverlap (Some a) (Some b)

  no_overlap : AllPairs NoOverlap items
  no_overlap i j d lt within h =
      let first = sym (put_some items i d (omega (arith, lt, within))) in
      let second = sym (put_some items j d within) in
      never_overlap j i j (omega arith) lt (subst (λ a. DoOverlap a (get_or Said j None)) first (subst (λ b. DoOverlap (Some (get_or items i d)) b) second h))

  abbrev ApartOfOne : Name × OpenInterval → Name × OpenInterval → Type 0
  ApartOfOne y z = y.0 ≡ z.0 → AreApart y.1 z.1

  -- what isn't apart overlaps
  apart_or : (x y : OpenInterval) → ¬ ¬ AreApart x y → AreApart x y
  apart_or x y never = elim (cases_lt y.from x.end) [
    | inr first ↦ inl first
    | inl less ↦ elim (cases_lt x.from y.end) [ inr second ↦ inr second | inl other ↦ absurd (never (elim [ inl h ↦ omega (arith, h, less) | inr h ↦ omega (arith, h, other) ])) ]
  ]

  apart_of_one : (a b : Item) (y z : Name × OpenInterval) → as_interval a ≡ Some y → as_interval b ≡ Some z → NoOverlap a b → ApartOfOne y z
  apart_of_one a b y z e f no_both same = apart_or y.1 z.1 (λ not_apart. no_both (y, z, e, f, same, not_apart))

  apart : (w : Name) → AllPairs AreApart (intervals_of w (intervals_in items))
  apart w =
      let of_one = differ_filter as_interval NoOverlap ApartOfOne apart_of_one items (differ_from_pairs NoOverlap items no_overlap) in
      pairs_from_differ AreApart (intervals_of w (intervals_in items)) (differ_filter (own_interval w) ApartOfOne AreApart (own_apart w) (intervals_in items) of_one)
    where
      own_apart : (n : Name) (a b : Name × OpenInterval) (y z : OpenInterval) → own_interval n a ≡ Some y → own_interval n b ≡ Some z → ApartOfOne a b → AreApart y z
      own_apart n a b y z e f h =
          let first = own_from name_cmp_total name_cmp-IsAntisymmetric n a y e in
          let second = own_from name_cmp_total name_cmp-IsAntisymmetric n b z f in
          subst (λ q. AreApart q z) first.1 (subst (λ q. AreApart a.1 q) second.1 (h (first.0 ∙ sym second.0)))

  opening : (w : Name) → IsOpening (intervals_of w (intervals_in items))
  opening w = record { few = let few = limit (group.IntervalsOf w) in omega (arith, count_intervals w items, few); apart = apart w }

  -- ---- kind by kind
  workstation_in : (w : Name) → Defined (key.Workstation w) → Contains (keys_of (workstations_in items)) w
  workstation_in w there = key_in kinds.workstations items w there

  operation_in : (o : OpKey) → Defined (key.Operation o) → Contains (keys_said (operations_in items)) o
  operation_in o there = key_in kinds.operations items o there

  workstations : AreWorkstations (workstations_in items) (intervals_in items)
  workstations = record {
    few = let few = limit group.Workstations in omega (arith, count_workstations items, few);
    distinct = read_distinct kinds.workstations items distinct;
    opening = all_by_members (CanOpen (intervals_in items)) (workstations_in items) (λ y has. opening y.0);
    no_others = all_by_members (λ y. Contains (keys_of (workstations_in items)) y.0) (intervals_in items) (λ y has. workstation_in y.0 (read_stands kinds.intervals (NamesDefined First) items (all_defined First) y has (key.Workstation y.0) refl));
  }

  resources : AreResources (resources_in items)
  resources = record { few = let few = limit group.Resources in omega (arith, count_resources items, few); distinct = read_distinct kinds.resources items distinct }

  occurrences : AreOccurrenceRows (occurrences_in items)
  occurrences = record { few = let few = limit group.Occurrences in omega (arith, count_occurrences items, few); distinct = read_distinct kinds.occurrences items distinct }

  fits : (o : OperationItem) → Contains (operations_in items) o → Fits (keys_of (workstations_in items)) (occurrences_in items) (needs_in items) o
  fits o has = record {
    workstation = workstation_in o.workstation (read_stands kinds.operations (NamesDefined First) items (all_defined First) o has (key.Workstation o.workstation) refl);
    occurrence = key_in kinds.occurrences items o.key.occurrence (read_stands kinds.operations (NamesDefined Second) items (all_defined Second) o has (key.Occurrence o.key.occurrence) refl);
    few_needs = let few = limit (group.NeedsOf o.key) in omega (arith, count_needs o.key items, few);
  }

  -- the operation at a place that owns the occurrence
  owned_get : (xs : List Item) (i : ℕ) (k : RowKey) → IsGiven (owned (map Some xs)) k i → (x : Item) × Contains xs x × (owner_of x ≡ Some k)
  owned_get [] i k e = absurd (none-some (Some k) e)
  owned_get (x ∷ xs) zero k e = (x, contains_head x xs, same_Some (owner_of x) (Some k) e)
  owned_get (x ∷ xs) (suc i) k e = let r = owned_get xs i k e in (r.0, contains_later x xs r.0 r.1, r.2)

  of_operation : (c : OccKey) (x : Item) → Contains items x → owner_of x ≡ Some (key.Occurrence c) → Contains (map occurrence_of (keys_said (operations_in items))) c
  of_operation c (item.Operation o) has e =
      let same : o.key.occurrence ≡ c = cc in
      let said = in_map (λ (z : OperationItem). z.key) (operations_in items) o (in_filter as_operation items (item.Operation o) o has refl) in
      subst (Contains (map occurrence_of (keys_said (operations_in items)))) same (in_map occurrence_of (keys_said (operations_in items)) o.key said)
  of_operation c x has e = absurd (none-some (key.Occurrence c) e)

  has_operation : (y : OccKey × Occurrence) → Contains (occurrences_in items) y → Contains (map occurrence_of (keys_said (operations_in items))) y.0
  has_operation y has = elim (look laws.total-law derived_exact (owned Said) (key.Occurrence y.0)) [
    | inl there ↦ let x = owned_get items there.0 (key.Occurrence y.0) there.1.here in of_operation y.0 x.0 x.1 x.2
    | inr nowhere ↦
        let x = key_out kinds.occurrences items y.0 (in_map (λ (z : OccKey × Occurrence). z.0) (occurrences_in items) y has) in
        let at = place_of items x.0 x.1 in
        absurd (none at.0 fault.NoOperation (inl (inr (inr (inr (inr (inr (inl (y.0, subst (λ k. IsGiven Keys k at.0) x.2 (given_put items at.0 x.0 at.1), nowhere)))))))))
  ]

  operations : AreOperations (keys_of (workstations_in items)) (occurrences_in items) (needs_in items) (operations_in items)
  operations = record {
    few = let few = limit group.Operations in omega (arith, count_operations items, few);
    fit = all_by_members (Fits (keys_of (workstations_in items)) (occurrences_in items) (needs_in items)) (operations_in items) fits;
    distinct = read_distinct kinds.operations items distinct;
    not_empty = all_by_members (λ y. Contains (map occurrence_of (keys_said (operations_in items))) y.0) (occurrences_in items) has_operation;
  }

  needs : AreNeeds (keys_said (operations_in items)) (keys_of (resources_in items)) (needs_in items)
  needs = record {
    within = all_by_members (IsNeedIn (keys_said (operations_in items)) (keys_of (resources_in items))) (needs_in items) (λ y has. record {
      operation = operation_in y.0 (read_stands kinds.needs (NamesDefined First) items (all_defined First) y has (key.Operation y.0) refl);
      resource = key_in kinds.resources items y.1.name (read_stands kinds.needs (NamesDefined Second) items (all_defined Second) y has (key.Resource y.1.name) refl);
    });
    distinct = read_distinct kinds.needs items distinct;
  }

  -- an item that is there stands at a place, which is the first of its key
  placed : (x : Item) → Contains items x → (i : ℕ) × IsFirst Keys (key_of x) i × (get_or Said i None ≡ Some x)
  placed x has =
      let at = place_of items x has in
      let given_at = given_put items at.0 x at.1 in
      (at.0, record { here = given_at; none_before = λ i lt. never_before (suc i) (key_of x) at.0 given_at i (omega arith) lt }, get_or_from_slice_get Said at.0 (Some x) None (says_put items at.0 x at.1))

  themselves : All (Contains items) items
  themselves = all_by_members (Contains items) items (λ x has. has)

  amounts : All (IsWithinStock (resources_in items)) (needs_in items)
  amounts = all_by_members (IsWithinStock (resources_in items)) (needs_in items) (λ y has. record {
    within = λ stock listed.
        let need = placed (item.Need y.0 y.1) (read_stands kinds.needs (Contains items) items themselves y has) in
        let resource = placed (item.Resource y.1.name stock.available stock.quantity) (read_stands kinds.resources (Contains items) items themselves (y.1.name, stock) listed) in
        elim (cases_lt stock.quantity y.1.amount) [
          | inr le ↦ le
          | inl more ↦ absurd (none need.0 (fault.BeyondStock resource.0) (inl (inr (inr (inr (inr (inr (inr (inr (y, (y.1.name, stock), ap need_said need.2, resource.1, ap resource_said resource.2, more))))))))))
        ];
  })

  pairs_within : All (IsPairIn (keys_said (operations_in items))) (pairs_in items)
  pairs_within = all_by_members (IsPairIn (keys_said (operations_in items))) (pairs_in items) (λ y has. record {
    first = operation_in y.0 (read_stands kinds.pairs (NamesDefined First) items (all_defined First) y has (key.Operation y.0) refl);
    second = operation_in y.1 (read_stands kinds.pairs (NamesDefined Second) items (all_defined Second) y has (key.Operation y.1) refl);
  })

  -- ---- paths
  -- an operation that is defined stands at a place
  stands : (o : OpKey) → Defined (key.Operation o) → (a : ℕ) × StandsAt Keys a o
  stands o there = elim (look laws.total-law derived_exact Keys (key.Operation o)) [
    | inl first ↦ first
    | inr nowhere ↦ let at = place_of items there.0 there.1 in absurd (nowhere at.0 (subst (λ k. IsGiven Keys k at.0) there.2 (given_put items at.0 there.0 at.1)))
  ]

  joins : (p s : OpKey) → IsPairOf (from_list {R = pair_cmp} (pairs_in items)) p s → JoinsGiven Keys p s
  joins p s e =
      let has = from_set pair_cmp_total pair_cmp-IsAntisymmetric (pairs_in items) (p, s) e in
      let x = key_out kinds.pairs items (p, s) (in_map (λ (y : OpKey × OpKey). y) (pairs_in items) (p, s) has) in
      let at = place_of items x.0 x.1 in
      let first = read_stands kinds.pairs (NamesDefined First) items (all_defined First) (p, s) has (key.Operation p) refl in
      let second = read_stands kinds.pairs (NamesDefined Second) items (all_defined Second) (p, s) has (key.Operation s) refl in
      ((at.0, subst (λ k. IsGiven Keys k at.0) x.2 (given_put items at.0 x.0 at.1)), stands p first, stands s second)

  acyclic_by : NoCircle Keys → IsAcyclic (from_list {R = pair_cmp} (pairs_in items))
  acyclic_by none_returns o path = none_returns o (lifted joins path)

  module _ (acyclic : IsAcyclic (from_list {R = pair_cmp} (pairs_in items))) where
    pairs : ArePairs (keys_said (operations_in items)) (pairs_in items)
    pairs = record { few = let few = limit group.Dependencies in omega (arith, count_pairs items, few); within = pairs_within; distinct = read_distinct kinds.pairs items distinct; acyclic = acyclic }

    can : CanBeLoaded items
    can = record { workstations = workstations; resources = resources; occurrences = occurrences; operations = operations; needs = needs; amounts = amounts; pairs = pairs }

    whole_items : All IsItem items → SaySome Said
    whole_items legal =
        let P = loaded items legal can in
        let ws = some_of group.Workstations (λ h. inr (inl h)) in
        let occ = some_of group.Occurrences (λ h. inr (inr h)) in
        (items, refl, (P.0, P.1, omega (arith, count_workstations items, workstations_count items P.0 P.1, ws), omega (arith, count_occurrences items, occurrences_there items P.0 P.1, occ)))

-- ---- all records say something
each_says : (said : Sayings) → ((place : ℕ) → slice_get said place ≢ Some None) → (items : List Item) × (said ≡ map Some items)
each_says [] some = ([], refl)
each_says (None ∷ said) some = absurd (some 0 refl)
each_says (Some x ∷ said) some = let rest = each_says said (λ place e. some (suc place) e) in (x ∷ rest.0, ap (λ zs. Some x ∷ zs) rest.1)

module _ (records : List Fields) (said : Sayings) (are : AreSayings records said) (none : (place : ℕ) (f : Fault) → ¬ IsFaultAt records said place f) where
  never_silent : (place : ℕ) → slice_get said place ≢ Some None
  never_silent place e =
      let within = slice_get_within said place None e in
      let at = slice_get-get_or records place [] (omega (arith, within, zip_length SaysOrNot records said are)) in
      let fields = get_or records place [] in
      some_shape fields (zip_at SaysOrNot records said place fields None are at e) (λ s h. none place (fault.Shape s) (inl (inl (fields, at, e, h))))

  pub whole : NoCircle (given said) → SaySome said
  whole none_returns =
      let all = each_says said never_silent in
      let items = all.0 in
      let legal = items_legal records items (said_all records items (subst (AreSayings records) all.1 are)) in
      let faultless : (place : ℕ) (f : Fault) → ¬ IsFaultAt records (map Some items) place f = λ place f. subst (λ z. ¬ IsFaultAt records z place f) all.1 (none place f) in
      subst SaySome (sym all.1) (whole_items records items faultless (acyclic_by records items faultless (subst (λ z. NoCircle (given z)) all.1 none_returns)) legal)
