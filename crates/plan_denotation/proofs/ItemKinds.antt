-- The kinds of items that a plan has: what is read of each, and what it is known by.
use Rattle.std.proofs.Common.{◌≡◌, ◌≢◌, ◌⊎◌, inl, inr, refl, sym, subst, ap, ◌∙◌, ℕ, true, List, map, length, All, Contains, Option, Some, None}
use Rattle.std.specs.List.{AllPairs, filter_map}
use Rattle.std.specs.declared.cmp.Ordering.{Ordering}
use Rattle.std.specs.Cmp.{IsTotalOrder}
use Rattle.std.specs.FinMap.{FinMap, IsAntisymmetric, contains_key, len}
use Rattle.std.proofs.lemmas.List.Elements.{All-contains}
use Rattle.plan_basics.specs.declared.Attr.{Attr}
use Rattle.plan_basics.specs.declared.keys.OccKey.{OccKey}
use Rattle.plan_basics.specs.declared.keys.OpKey.{OpKey}
use Rattle.plan_basics.specs.Keys.{Name}
use Rattle.plan_basics.specs.Intervals.{OpenInterval}
use Rattle.plan_items.specs.special_resources.specs.declared.Need.{Need}
use Rattle.plan_model.specs.declared.Occurrence.{Occurrence}
use Rattle.plan_model.specs.declared.Stock.{Stock}
use Rattle.plan_items.specs.declared.Item.{Item}
use Rattle.plan_items.specs.declared.Item.TheVariants as item
use Rattle.plan_items.specs.declared.OperationItem.{OperationItem}
use Rattle.plan_drafts.specs.declared.RowKey.{RowKey}
use Rattle.plan_drafts.specs.declared.RowKey.TheVariants as key
use Rattle.plan_drafts.specs.Records.{key_of}
use Rattle.plan_drafts.specs.PlanItems.{as_workstation, as_interval, as_resource, as_occurrence, as_operation, as_pair, as_need, need_key}
use Rattle.plan_drafts.proofs.Lists.{Differ, Kept, differ_from_pairs, pairs_from_differ, differ_filter, differ_kept, differ_map, from_filter, in_filter, in_map, from_map, length_map}
use Rattle.plan_drafts.proofs.Tables.{map_count}
use Rattle.std.proofs.lemmas.Option.{same_Some, none-some}

-- ---- what items say, kind by kind
abbrev pub workstations_in : List Item → List (Name × Attr)
workstations_in items = filter_map as_workstation items

abbrev pub intervals_in : List Item → List (Name × OpenInterval)
intervals_in items = filter_map as_interval items

abbrev pub resources_in : List Item → List (Name × Stock)
resources_in items = filter_map as_resource items

abbrev pub occurrences_in : List Item → List (OccKey × Occurrence)
occurrences_in items = filter_map as_occurrence items

abbrev pub operations_in : List Item → List OperationItem
operations_in items = filter_map as_operation items

abbrev pub pairs_in : List Item → List (OpKey × OpKey)
pairs_in items = filter_map as_pair items

abbrev pub needs_in : List Item → List (OpKey × Need)
needs_in items = filter_map as_need items

-- ---- one kind
-- items of a kind are read as a Y, which is known by a Q
pub record IsKind {Y Q : Type 0} (read : Item → Option Y) (item_of : Y → Item) (known : Y → Q) (tag : Q → RowKey) : Type 0 where
  pub told : (a : Item) → ((y : Y) × (a ≡ item_of y) × (read a ≡ Some y) × (key_of a ≡ tag (known y))) ⊎ ((read a ≡ None) × ((q : Q) → key_of a ≢ tag q))
  pub exact : (p q : Q) → tag p ≡ tag q → p ≡ q

module _ {Y Q : Type 0} {read : Item → Option Y} {item_of : Y → Item} {known : Y → Q} {tag : Q → RowKey} (kind : IsKind read item_of known tag) where
  -- an item of which something is read is of the kind
  pub of_kind : (a : Item) (y : Y) → read a ≡ Some y → (a ≡ item_of y) × (key_of a ≡ tag (known y))
  of_kind a y e = elim (kind.told a) [
    | inl (z, is, said, tagged) ↦ let same = same_Some z y (sym said ∙ e) in (is ∙ ap item_of same, tagged ∙ ap (λ x. tag (known x)) same)
    | inr (none, never) ↦ absurd (none-some y (sym none ∙ e))
  ]

  -- and so is one that is known by a key of the kind
  back : (a : Item) (q : Q) → key_of a ≡ tag q → (y : Y) × (read a ≡ Some y) × (known y ≡ q)
  back a q e = elim (kind.told a) [
    | inl (z, is, said, tagged) ↦ (z, said, kind.exact (known z) q (sym tagged ∙ e))
    | inr (none, never) ↦ absurd (never q e)
  ]

  -- where items are known apart, so is what is read
  pub read_apart : (items : List Item) → AllPairs (λ a b. key_of a ≢ key_of b) items → Differ (λ y z. known y ≢ known z) (filter_map read items)
  read_apart items d =
      differ_filter read (λ a b. key_of a ≢ key_of b) (λ y z. known y ≢ known z) (λ a b y z e k apart same. apart ((of_kind a y e).1 ∙ ap tag same ∙ sym (of_kind b z k).1))
      items (differ_from_pairs (λ a b. key_of a ≢ key_of b) items d)

  pub read_distinct : (items : List Item) → AllPairs (λ a b. key_of a ≢ key_of b) items → AllPairs (λ y z. known y ≢ known z) (filter_map read items)
  read_distinct items d = pairs_from_differ (λ y z. known y ≢ known z) (filter_map read items) (read_apart items d)

  -- and the way back, of items of the kind
  pub kept_apart : (items : List Item) → AllPairs (λ y z. known y ≢ known z) (filter_map read items) → AllPairs (Kept read (λ y z. known y ≢ known z)) items
  kept_apart items d = pairs_from_differ (Kept read (λ y z. known y ≢ known z)) items (differ_kept read (λ y z. known y ≢ known z) items (differ_from_pairs (λ y z. known y ≢ known z) (filter_map read items) d))

  pub apart_from : (a b : Item) (y : Y) → read a ≡ Some y → Kept read (λ y z. known y ≢ known z) a b → key_of a ≢ key_of b
  apart_from a b y e kept = λ same. let z = back b (known y) (sym same ∙ (of_kind a y e).1) in kept y z.0 e z.1 (sym z.2)

  -- what is so of each item is so of what is read
  pub read_stands : (P : Item → Type 0) (items : List Item) → All P items → (y : Y) → Contains (filter_map read items) y → P (item_of y)
  read_stands P items all y has = let r = from_filter read items y has in subst P (of_kind r.0 y r.2).0 (All-contains P items r.0 all r.1)

  -- of an item that is known by a key of the kind something is read that is known by it
  pub read_in : (items : List Item) (q : Q) → (i : Item) × Contains items i × (key_of i ≡ tag q) → (y : Y) × Contains (filter_map read items) y × (known y ≡ q)
  read_in items q (i, has, e) = let b = back i q e in (b.0, in_filter read items i b.0 has b.1, b.2)

  pub key_in : (items : List Item) (q : Q) → (i : Item) × Contains items i × (key_of i ≡ tag q) → Contains (map known (filter_map read items)) q
  key_in items q there = let r = read_in items q there in subst (Contains (map known (filter_map read items))) r.2 (in_map known (filter_map read items) r.0 r.1)

  pub key_out : (items : List Item) (q : Q) → Contains (map known (filter_map read items)) q → (i : Item) × Contains items i × (key_of i ≡ tag q)
  key_out items q has =
      let m = from_map known (filter_map read items) q has in
      let r = from_filter read items m.0 m.1 in
      (r.0, r.1, (of_kind r.0 m.0 r.2).1 ∙ ap tag m.2)

  -- a map of which the keys are just those of the kind has as many
  pub so_many :
      {X : Type 0} {R : Q → Q → Ordering} → IsTotalOrder R → IsAntisymmetric R → (items : List Item) → AllPairs (λ a b. key_of a ≢ key_of b) items → (m : FinMap R X) →
      ((y : Y) → Contains (filter_map read items) y → contains_key m (known y) ≡ true) →
      ((q : Q) → contains_key m q ≡ true → (i : Item) × Contains items i × (key_of i ≡ tag q)) → length (filter_map read items) ≡ len m
  so_many total exact items d m there all =
      sym (length_map known (filter_map read items))
      ∙ map_count total exact (map known (filter_map read items)) m (differ_map known (λ p q. p ≢ q) (filter_map read items) (read_apart items d))
      (λ q has. let r = from_map known (filter_map read items) q has in subst (λ z. contains_key m z ≡ true) r.2 (there r.0 r.1))
      (λ q e. key_in items q (all q e))

-- ---- the seven kinds
-- what an interval and its workstation are known by
abbrev pub interval_key : Name × OpenInterval → Name × ℕ
interval_key y = (y.0, y.1.from)

-- pairs of the same parts are the same
same_parts : {A B : Type 0} (p q : A × B) → p.0 ≡ q.0 → p.1 ≡ q.1 → p ≡ q
same_parts p q first second = λ i. (first i, second i)

pub workstations : IsKind as_workstation (λ y. item.Workstation y.0 y.1) (λ y. y.0) (λ q. key.Workstation q)
workstations = record { told = elim [ item.Workstation n t ↦ inl ((n, t), refl, refl, refl) | _ ↦ inr (refl, λ q e. cc) ]; exact = λ p q e. cc }

pub intervals : IsKind as_interval (λ y. item.Interval y.0 y.1) interval_key (λ q. key.Interval q.0 q.1)
intervals = record { told = elim [ item.Interval n x ↦ inl ((n, x), refl, refl, refl) | _ ↦ inr (refl, λ q e. cc) ]; exact = λ p q e. same_parts p q (cc) (cc) }

pub occurrences : IsKind as_occurrence (λ y. item.Occurrence y.0 y.1.priority y.1.deadline) (λ y. y.0) (λ q. key.Occurrence q)
occurrences = record { told = elim [ item.Occurrence c p d ↦ inl ((c, record { priority = p; deadline = d }), refl, refl, refl) | _ ↦ inr (refl, λ q e. cc) ]; exact = λ p q e. cc }

pub operations : IsKind as_operation (λ y. item.Operation y) (λ y. y.key) (λ q. key.Operation q)
operations = record { told = elim [ item.Operation o ↦ inl (o, refl, refl, refl) | _ ↦ inr (refl, λ q e. cc) ]; exact = λ p q e. cc }

pub pairs : IsKind as_pair (λ y. item.Dependency y.0 y.1) (λ y. y) (λ q. key.Dependency q.0 q.1)
pairs = record { told = elim [ item.Dependency p o ↦ inl ((p, o), refl, refl, refl) | _ ↦ inr (refl, λ q e. cc) ]; exact = λ p q e. same_parts p q (cc) (cc) }

pub resources : IsKind as_resource (λ y. item.Resource y.0 y.1.available y.1.quantity) (λ y. y.0) (λ q. key.Resource q)
resources = record { told = elim [ item.Resource n b q ↦ inl ((n, record { available = b; quantity = q }), refl, refl, refl) | _ ↦ inr (refl, λ q e. cc) ]; exact = λ p q e. cc }

pub needs : IsKind as_need (λ y. item.Need y.0 y.1) need_key (λ q. key.Need q.0 q.1)
needs = record { told = elim [ item.Need o n ↦ inl ((o, n), refl, refl, refl) | _ ↦ inr (refl, λ q e. cc) ]; exact = λ p q e. same_parts p q (cc) (cc) }

-- ---- the items of all kinds
-- two items that no kind ties are known apart
combined :
    (a b : Item) → Kept as_workstation (λ y z. y.0 ≢ z.0) a b → Kept as_interval (λ y z. interval_key y ≢ interval_key z) a b → Kept as_occurrence (λ y z. y.0 ≢ z.0) a b →
    Kept as_operation (λ y z. y.key ≢ z.key) a b → Kept as_pair (λ y z. y ≢ z) a b → Kept as_resource (λ y z. y.0 ≢ z.0) a b → Kept as_need (λ y z. need_key y ≢ need_key z) a b →
    key_of a ≢ key_of b
combined (item.Workstation n t) b w i c o p r d = apart_from workstations (item.Workstation n t) b (n, t) refl w
combined (item.Interval n x) b w i c o p r d = apart_from intervals (item.Interval n x) b (n, x) refl i
combined (item.Occurrence n q x) b w i c o p r d = apart_from occurrences (item.Occurrence n q x) b (n, record { priority = q; deadline = x }) refl c
combined (item.Operation x) b w i c o p r d = apart_from operations (item.Operation x) b x refl o
combined (item.Dependency x y) b w i c o p r d = apart_from pairs (item.Dependency x y) b (x, y) refl p
combined (item.Resource n a q) b w i c o p r d = apart_from resources (item.Resource n a q) b (n, record { available = a; quantity = q }) refl r
combined (item.Need x n) b w i c o p r d = apart_from needs (item.Need x n) b (x, n) refl d

-- items are known apart where those of each kind are
pub known_apart :
    (items : List Item) → AllPairs (λ y z. y.0 ≢ z.0) (workstations_in items) → AllPairs (λ y z. interval_key y ≢ interval_key z) (intervals_in items) →
    AllPairs (λ y z. y.0 ≢ z.0) (occurrences_in items) → AllPairs (λ y z. y.key ≢ z.key) (operations_in items) → AllPairs (λ y z. y ≢ z) (pairs_in items) →
    AllPairs (λ y z. y.0 ≢ z.0) (resources_in items) → AllPairs (λ y z. need_key y ≢ need_key z) (needs_in items) → AllPairs (λ a b. key_of a ≢ key_of b) items
known_apart items w i c o p r d = λ j k x before within.
    combined _ _
    (kept_apart workstations items w j k x before within)
    (kept_apart intervals items i j k x before within)
    (kept_apart occurrences items c j k x before within)
    (kept_apart operations items o j k x before within)
    (kept_apart pairs items p j k x before within)
    (kept_apart resources items r j k x before within)
    (kept_apart needs items d j k x before within)
