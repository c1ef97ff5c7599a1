-- The parts of what items say, where these are added together, are the extension of these items.
use Rattle.std.proofs.Common.{◌≡◌, ◌≢◌, ◌⊎◌, inl, inr, sym, ap, ◌∙◌, List, All, Contains, Some}
use Rattle.std.specs.List.{AllPairs}
use Rattle.std.specs.FinMap.{get}
use Rattle.std.specs.Map.{keys_of}
use Rattle.std.proofs.lemmas.List.Elements.{All-contains, Contains-get_or}
use Rattle.plan_basics.specs.declared.keys.OccKey.{OccKey}
use Rattle.plan_basics.specs.declared.keys.OpKey.{OpKey}
use Rattle.plan_basics.specs.Keys.{IsOperationKey, occurrence_cmp_total, occurrence_cmp-IsAntisymmetric}
use Rattle.plan_model.specs.Contents.{AddedParts, IsPairOf}
use Rattle.plan_model.specs.declared.Occurrence.{Occurrence}
use Rattle.plan_items.specs.declared.Item.{Item}
use Rattle.plan_items.specs.declared.OperationItem.{OperationItem}
use Rattle.plan_items.specs.Items as items_of
use Rattle.plan_drafts.specs.declared.contents.ExtensionParts.{ExtensionParts}
use Rattle.plan_drafts.specs.Contents.{added_of, AreExtensionParts}
use Rattle.plan_drafts.specs.Drafts.{IsOwn, IsEnd, IsExtension}
use Rattle.plan_drafts.specs.Records.{key_of, StandsInAdded, IsItemOf, AreItems}
use Rattle.plan_drafts.specs.PlanItems.{BelongsTo, keys_said, terms_of}
use Rattle.plan_drafts.specs.ExtensionItems.{MayComeIn, IsEndAmong, IsPairAmong, AreExtensionOf}
use Rattle.plan_drafts.proofs.Lists.{in_map, from_map, all_by_members, keys_permuted}
use Rattle.plan_drafts.proofs.Tables.{some_is, is_found}
use Rattle.plan_denotation.proofs.Terms.{terms_there}
use Rattle.plan_denotation.proofs.ItemKinds as kinds
use Rattle.plan_denotation.proofs.ItemKinds.{workstations_in, intervals_in, resources_in, occurrences_in, operations_in, pairs_in, needs_in, known_apart, read_stands}
use Rattle.plan_denotation.proofs.MadeParts as made_parts
use Rattle.plan_denotation.proofs.MadeParts.{AreParts, end_there, found_said, pair_from, said_found}

module _ (items : List Item) (n : ExtensionParts) (legal : All items_of.IsItem items) (made : AreExtensionOf items n) where
  abbrev S : AddedParts
  S = added_of n

  -- ---- no two items are of one key
  none_apart : {Y : Type 0} (R : Y → Y → Type 0) (ys : List Y) → ((y : Y) → Contains ys y → ⊥) → AllPairs R ys
  none_apart R ys none = λ i j d before within. absurd (none _ (Contains-get_or ys j d within))

  distinct : AllPairs (λ a b. key_of a ≢ key_of b) items
  distinct =
      let may = made.come_in.may in
      known_apart items
      (none_apart (λ y z. y.0 ≢ z.0) (workstations_in items) (read_stands kinds.workstations MayComeIn items may))
      (none_apart (λ y z. kinds.interval_key y ≢ kinds.interval_key z) (intervals_in items) (read_stands kinds.intervals MayComeIn items may))
      made.come_in.occurrences made.come_in.operations.distinct made.come_in.pairs.distinct
      (none_apart (λ y z. y.0 ≢ z.0) (resources_in items) (read_stands kinds.resources MayComeIn items may))
      made.come_in.needs.distinct

  -- ---- the occurrences
  occurrence_at : (row : OccKey × Occurrence) → Contains (occurrences_in items) row → get S.occurrences row.0 ≡ Some row.1
  occurrence_at = said_found occurrence_cmp_total occurrence_cmp-IsAntisymmetric (occurrences_in items) n.occurrences.items made.occurrences made.occurrences_in_order

  occurrence_from : (k : OccKey) (x : Occurrence) → get S.occurrences k ≡ Some x → Contains (occurrences_in items) (k, x)
  occurrence_from = found_said occurrence_cmp_total occurrence_cmp-IsAntisymmetric (occurrences_in items) n.occurrences.items made.occurrences

  own_there : (o : OpKey) → Contains (keys_of (occurrences_in items)) o.occurrence → IsOwn S o
  own_there o has =
      let row = from_map (λ (row : OccKey × Occurrence). row.0) (occurrences_in items) o.occurrence has in
      some_is (get S.occurrences o.occurrence) row.0.1 (ap (get S.occurrences) (sym row.2) ∙ occurrence_at row.0 row.1)

  own_is : (o : OpKey) → IsOwn S o → Contains (keys_of (occurrences_in items)) o.occurrence
  own_is o e =
      let found = is_found (get S.occurrences o.occurrence) e in
      in_map (λ (row : OccKey × Occurrence). row.0) (occurrences_in items) (o.occurrence, found.0) (occurrence_from o.occurrence found.0 found.1)

  -- ---- the parts
  belongs : (said : OperationItem) → Contains (operations_in items) said → BelongsTo (occurrences_in items) (needs_in items) said
  belongs said has = All-contains (BelongsTo (occurrences_in items) (needs_in items)) (operations_in items) said made.come_in.operations.belong has

  abbrev terms_in : OperationItem → Occurrence
  terms_in said = terms_of n.occurrences.items said.key.occurrence

  parts : AreParts items terms_in S.occurrences n.operations.items n.pairs.items
  parts = record {
    legal = legal;
    occurrence_at = occurrence_at;
    occurrence_from = occurrence_from;
    terms_at = λ said has. terms_there n.occurrences.items made.occurrences_in_order said.key.occurrence (keys_permuted (occurrences_in items) n.occurrences.items made.occurrences said.key.occurrence (belongs said has).occurrence);
    not_empty = made.come_in.operations.not_empty;
    few_needs = λ said has. (belongs said has).few_needs;
    needs = made.come_in.needs;
    operations = made.operations;
    in_order = made.operations_in_order;
    pairs = made.pairs;
  }

  pub come_as_items : AreItems (StandsInAdded S) (IsItemOf S) items
  come_as_items = record {
    distinct = distinct;
    stand = all_by_members (StandsInAdded S) items (λ i has. made_parts.stands parts i has (All-contains MayComeIn items i made.come_in.may has));
    all = made_parts.described parts;
  }

  -- ---- they are an extension
  is_end : (o : OpKey) → IsOperationKey o → IsEndAmong (keys_of (occurrences_in items)) (keys_said (operations_in items)) o → IsEnd S o
  is_end o legal_key among = (legal_key, λ own. end_there parts o (among (own_is o own)))

  pairs_are : (p o : OpKey) → IsPairOf S.pairs p o → IsEnd S p × IsEnd S o × (IsOwn S p ⊎ IsOwn S o)
  pairs_are p o e =
      let has = pair_from parts (p, o) e in
      let new = All-contains (IsPairAmong (keys_of (occurrences_in items)) (keys_said (operations_in items))) (pairs_in items) (p, o) made.come_in.pairs.among has in
      let keys = read_stands kinds.pairs items_of.IsItem items legal (p, o) has in
      (is_end p keys.0 new.first, is_end o keys.1 new.second, elim new.own [ inl first ↦ inl (own_there p first) | inr second ↦ inr (own_there o second) ])

  pub is_extension : IsExtension S
  is_extension = record { occurrences = made_parts.occurrences_are parts; untouched = made_parts.untouched parts; pairs = pairs_are }

  pub are_extension_parts : AreExtensionParts n
  are_extension_parts = record { occurrences = made.occurrences_in_order; operations = made.operations_in_order; pairs = made.pairs_in_order; extension = is_extension }
