-- Records of what is added have no fault where their items come in together, of an addition one occurrence.
use Rattle.std.proofs.Common.{◌≡◌, ◌≢◌, inl, inr, refl, sym, ap, subst, ◌∙◌, arith, ℕ, zero, suc, ◌<◌, ◌≤◌, List, [], ◌∷◌, length, map, slice_get, Contains, Option, Some}
use Rattle.std.specs.List.{AllPairs}
use Rattle.std.specs.Map.{keys_of}
use Rattle.std.proofs.lemmas.Option.{none-some, same_Some, slice_get_within, get_or_from_slice_get}
use Rattle.std.proofs.lemmas.List.Elements.{All-contains}
use Rattle.plan_basics.proofs.Members.{at_place, place_of}
use Rattle.plan_basics.specs.declared.keys.OccKey.{OccKey}
use Rattle.plan_basics.specs.declared.keys.OpKey.{OpKey}
use Rattle.plan_basics.specs.declared.limits.TheConstants.{MOST_NEEDS}
use Rattle.special_resources.specs.declared.Need.{Need}
use Rattle.plan_items.specs.declared.Item.{Item}
use Rattle.plan_items.specs.declared.Item.TheVariants as item
use Rattle.plan_items.specs.declared.OperationItem.{OperationItem}
use Rattle.plan_items.specs.Items.{Fields}
use Rattle.plan_drafts.specs.plan_model.specs.declared.Occurrence.{Occurrence}
use Rattle.plan_drafts.specs.declared.RowKey.{RowKey}
use Rattle.plan_drafts.specs.declared.RowKey.TheVariants as key
use Rattle.plan_drafts.specs.Records.{key_of}
use Rattle.plan_drafts.specs.PlanItems.{BelongsTo, as_occurrence, as_operation, as_pair, as_need, keys_said, needs_of, occurrence_of}
use Rattle.plan_drafts.specs.ExtensionItems.{MayComeIn, IsNeedOf, IsPairAmong, ComeInTogether}
use Rattle.plan_drafts.proofs.Lists.{in_filter, from_map, sole_member}
use Rattle.record_faults.specs.plan_denotation.proofs.ItemKinds as kinds
use Rattle.record_faults.specs.plan_denotation.proofs.ItemKinds.{occurrences_in, operations_in, needs_in, pairs_in, key_in, key_out, read_in}
use Rattle.record_faults.specs.declared.faults.Fault.{Fault}
use Rattle.record_faults.specs.declared.faults.Fault.TheVariants as fault
use Rattle.record_faults.specs.declared.names.Naming.{Naming}
use Rattle.record_faults.specs.declared.names.Naming.TheVariants.{First, Second}
use Rattle.record_faults.specs.declared.groups.Group.{Group}
use Rattle.record_faults.specs.declared.groups.Group.TheVariants as group
use Rattle.record_faults.specs.Sayings.{Sayings, SaysAt, owner_of, owned, given, IsGiven}
use Rattle.record_faults.specs.Groups.{group_of, count_of}
use Rattle.record_faults.specs.Faults.{name_of, IsSilent, IsRepetition, IsOverlap, IsUndefined, IsUnused, IsCrowd, IsBeyondStock, IsMissing, IsFaultAt}
use Rattle.record_faults.proofs.Denoted.{no_gap, given_get, given_put}
use Rattle.record_faults.proofs.Limits.{groups_in, count_occurrences, count_needs}
use Rattle.text_faults.specs.declared.additions.faults.AddedText.{AddedText}
use Rattle.text_faults.specs.declared.additions.faults.AddedText.TheVariants as text
use Rattle.text_faults.specs.declared.additions.faults.AddedFault.{AddedFault}
use Rattle.text_faults.specs.declared.additions.faults.AddedFault.TheVariants as of_added
use Rattle.text_faults.specs.AddedFaults.{SaysOccurrence, IsOwn, IsJudged, IsAdditionFault, IsFaultHere}

-- ---- places of items
says_get : (items : List Item) (place : ℕ) (x : Item) → SaysAt (map Some items) place x → slice_get items place ≡ Some x
says_get [] place x e = cc
says_get (y ∷ ys) zero x e = same_Some (Some y) (Some x) e
says_get (y ∷ ys) (suc place) x e = says_get ys place x e

grouped_get : (items : List Item) (place : ℕ) (g : Group) → IsGiven (groups_in items) g place → (x : Item) × (slice_get items place ≡ Some x) × (group_of x ≡ g)
grouped_get [] place g e = absurd (none-some (Some g) e)
grouped_get (y ∷ ys) zero g e = (y, refl, same_Some (group_of y) g (same_Some (Some (group_of y)) (Some g) e))
grouped_get (y ∷ ys) (suc place) g e = grouped_get ys place g e

owned_put : (items : List Item) (place : ℕ) (x : Item) (k : RowKey) → slice_get items place ≡ Some x → owner_of x ≡ Some k → IsGiven (owned (map Some items)) k place
owned_put [] place x k e o = absurd (none-some x e)
owned_put (y ∷ ys) zero x k e o = ap (λ z. Some (owner_of z)) (same_Some y x e) ∙ ap Some o
owned_put (y ∷ ys) (suc place) x k e o = owned_put ys place x k e o

-- a list of one has one element
sole_of : {X : Type 0} (xs : List X) → length xs ≡ 1 → (x : X) × (xs ≡ x ∷ [])
sole_of [] size = absurd (omega (arith, size))
sole_of (x ∷ []) size = (x, refl)
sole_of (x ∷ y ∷ xs) size = absurd (omega (arith, size))

module _ (added : AddedText) (items : List Item) (come : ComeInTogether items) (one : added ≡ text.Addition → length (occurrences_in items) ≡ 1) (distinct : AllPairs (λ a b. key_of a ≢ key_of b) items) where
  abbrev Said : Sayings
  Said = map Some items

  abbrev Occurrences : List OccKey
  Occurrences = keys_of (occurrences_in items)

  abbrev Keys : List OpKey
  Keys = keys_said (operations_in items)

  abbrev Defined : RowKey → Type 0
  Defined k = (y : Item) × Contains items y × (key_of y ≡ k)

  -- an operation is own where its occurrence is one of these
  own_is : (o : OpKey) → IsOwn Said o → Contains Occurrences o.occurrence
  own_is o own = let x = given_get items own.0 (key.Occurrence o.occurrence) own.1 in key_in kinds.occurrences items o.occurrence (x.0, at_place items own.0 x.0 x.1, x.2)

  occurrence_defined : (c : OccKey) → Contains Occurrences c → Defined (key.Occurrence c)
  occurrence_defined c has = key_out kinds.occurrences items c has

  operation_there : (o : OpKey) → Contains Keys o → Defined (key.Operation o)
  operation_there o has = key_out kinds.operations items o has

  comes : (o : OperationItem) → Contains items (item.Operation o) → BelongsTo (occurrences_in items) (needs_in items) o
  comes o has = All-contains (BelongsTo (occurrences_in items) (needs_in items)) (operations_in items) o come.operations.belong (in_filter as_operation items (item.Operation o) o has refl)

  new_pair : (p s : OpKey) → Contains items (item.Dependency p s) → IsPairAmong Occurrences Keys (p, s)
  new_pair p s has = All-contains (IsPairAmong Occurrences Keys) (pairs_in items) (p, s) come.pairs.among (in_filter as_pair items (item.Dependency p s) (p, s) has refl)

  need_of : (o : OpKey) (n : Need) → Contains items (item.Need o n) → Contains Keys o
  need_of o n has = All-contains (IsNeedOf Keys) (needs_in items) (o, n) come.needs.within (in_filter as_need items (item.Need o n) (o, n) has refl)

  -- what is defined is given somewhere
  given_somewhere : (k : RowKey) → Defined k → (i : ℕ) × IsGiven (given Said) k i
  given_somewhere k there = let at = place_of items there.0 there.1 in (at.0, subst (λ z. IsGiven (given Said) z at.0) there.2 (given_put items at.0 there.0 at.1))

  own_by : (o : OpKey) → Contains Occurrences o.occurrence → IsOwn Said o
  own_by o has = given_somewhere (key.Occurrence o.occurrence) (occurrence_defined o.occurrence has)

  -- ---- no fault that a plan's record may have too
  never_silent : (records : List Fields) (place : ℕ) (f : Fault) → ¬ IsSilent records Said place f
  never_silent records place (fault.Shape s) h = no_gap items place h.2
  never_silent records place _ h = h

  never_repeated : (place : ℕ) (f : Fault) → ¬ IsRepetition Said place f
  never_repeated place (fault.Repeated k first) h =
      let x = given_get items place k h.0 in
      let y = given_get items first k h.1.here in
      let lt = h.2 in
      distinct first place x.0 lt (slice_get_within items place x.0 x.1)
      (ap key_of (get_or_from_slice_get items first y.0 x.0 y.1) ∙ y.2 ∙ sym x.2 ∙ sym (ap key_of (get_or_from_slice_get items place x.0 x.0 x.1)))
  never_repeated place _ h = h

  never_overlapping : (place : ℕ) (f : Fault) → IsOverlap Said place f → ¬ IsJudged added Said place f
  never_overlapping place (fault.Overlaps other) h j = j
  never_overlapping place _ h j = h

  -- an operation's name that is judged is defined
  judged_there : (naming : Naming) (place : ℕ) (x : Item) (o : OpKey) → SaysAt Said place x → name_of naming x ≡ Some (key.Operation o) → IsJudged added Said place (fault.Undefined (key.Operation o)) → Contains Keys o
  judged_there naming place x o at named (inl need) = need_of o need.0 (at_place items place (item.Need o need.0) (says_get items place (item.Need o need.0) need.1))
  judged_there naming place x o at named (inr own) = by_item naming x (at_place items place x (says_get items place x at)) named
    where
      end : (q : OpKey) → (Contains Occurrences q.occurrence → Contains Keys q) → ◌≡◌ {A = Option RowKey} (Some (key.Operation q)) (Some (key.Operation o)) → Contains Keys o
      end q among e = let is : q ≡ o = cc in subst (Contains Keys) is (among (subst (λ (z : OpKey). Contains Occurrences z.occurrence) (sym is) (own_is o own)))

      by_item : (n : Naming) (y : Item) → Contains items y → name_of n y ≡ Some (key.Operation o) → Contains Keys o
      by_item First (item.Dependency p s) has e = end p (new_pair p s has).first e
      by_item Second (item.Dependency p s) has e = end s (new_pair p s has).second e
      by_item First (item.Need p n) has e = end p (λ z. need_of p n has) e
      by_item Second (item.Need p n) has e = cc
      by_item First (item.Interval w i) has e = cc
      by_item First (item.Operation q) has e = cc
      by_item Second (item.Operation q) has e = cc
      by_item First _ has e = absurd (none-some (key.Operation o) e)
      by_item Second _ has e = absurd (none-some (key.Operation o) e)

  -- the occurrence of an operation is defined
  occurrence_there : (naming : Naming) (x : Item) (d : OccKey) → Contains items x → name_of naming x ≡ Some (key.Occurrence d) → Contains Occurrences d
  occurrence_there Second (item.Operation o) d has e = let same : o.key.occurrence ≡ d = cc in subst (Contains Occurrences) same (comes o has).occurrence
  occurrence_there First (item.Interval w i) d has e = cc
  occurrence_there First (item.Operation o) d has e = cc
  occurrence_there First (item.Dependency p s) d has e = cc
  occurrence_there First (item.Need p n) d has e = cc
  occurrence_there Second (item.Dependency p s) d has e = cc
  occurrence_there Second (item.Need p n) d has e = cc
  occurrence_there First _ d has e = absurd (none-some (key.Occurrence d) e)
  occurrence_there Second _ d has e = absurd (none-some (key.Occurrence d) e)

  never_undefined : (naming : Naming) (place : ℕ) (f : Fault) → IsUndefined naming Said place f → ¬ IsJudged added Said place f
  never_undefined naming place (fault.Undefined (key.Occurrence d)) h j =
      let at = given_somewhere (key.Occurrence d) (occurrence_defined d (occurrence_there naming h.0 d (at_place items place h.0 (says_get items place h.0 h.1)) h.2)) in
      h.3 at.0 at.1
  never_undefined naming place (fault.Undefined (key.Operation o)) h j =
      let at = given_somewhere (key.Operation o) (operation_there o (judged_there naming place h.0 o h.1 h.2 j)) in
      h.3 at.0 at.1
  never_undefined naming place (fault.Undefined key.Meta) h j = j
  never_undefined naming place (fault.Undefined (key.Workstation w)) h j = j
  never_undefined naming place (fault.Undefined (key.Interval w m)) h j = j
  never_undefined naming place (fault.Undefined (key.Resource r)) h j = j
  never_undefined naming place (fault.Undefined (key.Dependency p s)) h j = j
  never_undefined naming place (fault.Undefined (key.Need o r)) h j = j
  never_undefined naming place (fault.Undefined (key.Quantity r)) h j = j
  never_undefined naming place (fault.Undefined (key.Amount o r)) h j = j
  never_undefined naming place _ h j = h

  -- each occurrence has an operation
  owner : (c : OccKey) → Contains Occurrences c → (i : ℕ) × IsGiven (owned Said) (key.Occurrence c) i
  owner c has =
      let row = from_map (λ (y : OccKey × Occurrence). y.0) (occurrences_in items) c has in
      let of_row = All-contains (λ (y : OccKey × Occurrence). Contains (map occurrence_of Keys) y.0) (occurrences_in items) row.0 come.operations.not_empty row.1 in
      let o = from_map occurrence_of Keys row.0.0 of_row in
      let y = operation_there o.0 o.1 in
      let at = place_of items y.0 y.1 in
      let same : o.0.occurrence ≡ c = o.2 ∙ row.2 in
      (at.0, owned_put items at.0 y.0 (key.Occurrence c) at.1 (by_key o.0 y.0 y.2 ∙ ap (λ (z : OccKey). Some (key.Occurrence z)) same))
    where
      by_key : (o : OpKey) (x : Item) → key_of x ≡ key.Operation o → owner_of x ≡ Some (key.Occurrence o.occurrence)
      by_key o (item.Operation q) e = let same : q.key ≡ o = cc in ap (λ (z : OpKey). Some (key.Occurrence z.occurrence)) same
      by_key o x e = absurd (cc)

  never_unused : (place : ℕ) (f : Fault) → ¬ IsUnused Said place f
  never_unused place fault.NoOperation h =
      let x = given_get items place (key.Occurrence h.0) h.1 in
      let at = owner h.0 (key_in kinds.occurrences items h.0 (x.0, at_place items place x.0 x.1, x.2)) in
      h.2 at.0 at.1
  never_unused place _ h = h

  -- no operation has too many needs
  few : (o : OpKey) → Contains Keys o → count_of (group.NeedsOf o) (groups_in items) ≤ MOST_NEEDS
  few o has =
      let row = read_in kinds.operations items o (operation_there o has) in
      let belongs = All-contains (BelongsTo (occurrences_in items) (needs_in items)) (operations_in items) row.0 come.operations.belong row.1 in
      let le : length (needs_of o (needs_in items)) ≤ MOST_NEEDS = subst (λ z. length (needs_of z (needs_in items)) ≤ MOST_NEEDS) row.2 belongs.few_needs in
      omega (arith, count_needs o items, le)

  never_crowded : (place : ℕ) (f : Fault) → IsCrowd Said place f → ¬ IsJudged added Said place f
  never_crowded place (fault.TooMany (group.NeedsOf o) count) h j =
      let x = grouped_get items place (group.NeedsOf o) h.0.here in
      let le = few o (of x.0 x.2 (at_place items place x.0 x.1)) in
      let is = h.1 in
      let more = h.2 in
      omega (arith, le, is, more)
    where
      of : (y : Item) → group_of y ≡ group.NeedsOf o → Contains items y → Contains Keys o
      of (item.Need p n) e has = let same : p ≡ o = cc in subst (Contains Keys) same (need_of p n has)
      of y e has = absurd (cc)
  never_crowded place (fault.TooMany group.Workstations count) h j = j
  never_crowded place (fault.TooMany (group.IntervalsOf w) count) h j = j
  never_crowded place (fault.TooMany group.Resources count) h j = j
  never_crowded place (fault.TooMany group.Occurrences count) h j = j
  never_crowded place (fault.TooMany group.Operations count) h j = j
  never_crowded place (fault.TooMany group.Dependencies count) h j = j
  never_crowded place _ h j = h

  -- what there is of a resource isn't judged
  never_beyond : (place : ℕ) (f : Fault) → IsBeyondStock Said place f → ¬ IsJudged added Said place f
  never_beyond place (fault.BeyondStock other) h j = j
  never_beyond place _ h j = h

  never_without_workstation : (place : ℕ) (f : Fault) → IsMissing group.Workstations Said place f → ¬ IsJudged added Said place f
  never_without_workstation place (fault.Missing group.Occurrences) h j = let never : group.Occurrences ≢ group.Workstations = cc in never h.0
  never_without_workstation place (fault.Missing group.Workstations) h j = j
  never_without_workstation place (fault.Missing (group.IntervalsOf w)) h j = j
  never_without_workstation place (fault.Missing group.Resources) h j = j
  never_without_workstation place (fault.Missing group.Operations) h j = j
  never_without_workstation place (fault.Missing group.Dependencies) h j = j
  never_without_workstation place (fault.Missing (group.NeedsOf o)) h j = j
  never_without_workstation place _ h j = h

  -- an addition has an occurrence
  never_without_occurrence : (place : ℕ) (f : Fault) → IsMissing group.Occurrences Said place f → ¬ IsJudged added Said place f
  never_without_occurrence place (fault.Missing group.Occurrences) h j =
      let size = one j in
      let none = h.2 in
      omega (arith, count_occurrences items, size, none)
  never_without_occurrence place (fault.Missing group.Workstations) h j = j
  never_without_occurrence place (fault.Missing (group.IntervalsOf w)) h j = j
  never_without_occurrence place (fault.Missing group.Resources) h j = j
  never_without_occurrence place (fault.Missing group.Operations) h j = j
  never_without_occurrence place (fault.Missing group.Dependencies) h j = j
  never_without_occurrence place (fault.Missing (group.NeedsOf o)) h j = j
  never_without_occurrence place _ h j = h

  never_of_record : (records : List Fields) (place : ℕ) (f : Fault) → IsFaultAt records Said place f → ¬ IsJudged added Said place f
  never_of_record records place f (inl (inl h)) j = never_silent records place f h
  never_of_record records place f (inl (inr (inl h))) j = never_repeated place f h
  never_of_record records place f (inl (inr (inr (inl h)))) j = never_overlapping place f h j
  never_of_record records place f (inl (inr (inr (inr (inl h))))) j = never_undefined First place f h j
  never_of_record records place f (inl (inr (inr (inr (inr (inl h)))))) j = never_undefined Second place f h j
  never_of_record records place f (inl (inr (inr (inr (inr (inr (inl h))))))) j = never_unused place f h
  never_of_record records place f (inl (inr (inr (inr (inr (inr (inr (inl h)))))))) j = never_crowded place f h j
  never_of_record records place f (inl (inr (inr (inr (inr (inr (inr (inr h)))))))) j = never_beyond place f h j
  never_of_record records place f (inr (inl h)) j = never_without_workstation place f h j
  never_of_record records place f (inr (inr h)) j = never_without_occurrence place f h j

  -- ---- and none beside
  -- of one occurrence there is no second
  never_two : (i j : ℕ) → SaysOccurrence Said i → SaysOccurrence Said j → length (occurrences_in items) ≡ 1 → i < j → ⊥
  never_two i j a b size lt =
      let x : Item = item.Occurrence a.0 a.1 a.2 in
      let y : Item = item.Occurrence b.0 b.1 b.2 in
      let at_x = says_get items i x a.3 in
      let at_y = says_get items j y b.3 in
      let row : OccKey × Occurrence = (a.0, record { priority = a.1; deadline = a.2 }) in
      let other : OccKey × Occurrence = (b.0, record { priority = b.1; deadline = b.2 }) in
      let sole = sole_of (occurrences_in items) size in
      let first = sole_member (occurrences_in items) sole.0 row sole.1 (in_filter as_occurrence items x row (at_place items i x at_x) refl) in
      let second = sole_member (occurrences_in items) sole.0 other sole.1 (in_filter as_occurrence items y other (at_place items j y at_y) refl) in
      let same : a.0 ≡ b.0 = ap (λ (z : OccKey × Occurrence). z.0) (sym first ∙ second) in
      distinct i j x lt (slice_get_within items j y at_y)
      (ap key_of (get_or_from_slice_get items i x x at_x) ∙ ap key.Occurrence same ∙ sym (ap key_of (get_or_from_slice_get items j y x at_y)))

  never_beside : (place : ℕ) (k : AddedFault) → ¬ IsAdditionFault added Said place k
  never_beside place (of_added.OfRecord f) h = h
  never_beside place of_added.NotAdded h = h.2 (All-contains MayComeIn items h.0 come.may (at_place items place h.0 (says_get items place h.0 h.1)))
  never_beside place (of_added.AnotherOccurrence first) h = never_two first place h.2.0 h.1 (one h.0) h.3
  never_beside place of_added.Elsewhere h =
      let pair = new_pair h.0 h.1 (at_place items place (item.Dependency h.0 h.1) (says_get items place (item.Dependency h.0 h.1) h.2)) in
      elim pair.own [ inl first ↦ h.3 (own_by h.0 first) | inr second ↦ h.4 (own_by h.1 second) ]

  pub faultless : (records : List Fields) (place : ℕ) (k : AddedFault) → ¬ IsFaultHere added records Said place k
  faultless records place (of_added.OfRecord f) h = never_of_record records place f h.0 h.1
  faultless records place of_added.NotAdded h = never_beside place of_added.NotAdded h
  faultless records place (of_added.AnotherOccurrence n) h = never_beside place (of_added.AnotherOccurrence n) h
  faultless records place of_added.Elsewhere h = never_beside place of_added.Elsewhere h
