-- In a plan no two intervals of a workstation overlap.
use Rattle.std.proofs.Common.{◌≡◌, refl, ap, subst, ℕ, ◌<◌, List, length, get_or, Contains, Some}
use Rattle.std.specs.List.{AllPairs}
use Rattle.std.specs.Map.{keys_of}
use Rattle.std.proofs.lemmas.List.Elements.{All-contains}
use Rattle.plan_basics.specs.Intervals.{OpenInterval, AreApart}
use Rattle.plan_basics.specs.Keys.{Name, name_cmp_total, name_cmp-IsAntisymmetric}
use Rattle.plan_basics.specs.declared.Attr.{Attr}
use Rattle.plan_items.specs.declared.Item.{Item}
use Rattle.plan_items.specs.declared.Item.TheVariants as item
use Rattle.plan_drafts.specs.PlanItems.{CanBeLoaded, CanOpen, IsOpening, as_interval, own_interval, intervals_of}
use Rattle.plan_drafts.proofs.Lists.{Kept, differ_from_pairs, pairs_from_differ, differ_kept, from_map}
use Rattle.plan_denotation.proofs.ItemKinds.{workstations_in, intervals_in}
use Rattle.plan_drafts.proofs.Keyed.{own_is}

module _ (items : List Item) (can : CanBeLoaded items) (w : Name) (has : Contains (keys_of (workstations_in items)) w) where
  pub opening_in_plan : IsOpening (intervals_of w (intervals_in items))
  opening_in_plan =
      let station = from_map (λ (y : Name × Attr). y.0) (workstations_in items) w has in
      subst (λ n. IsOpening (intervals_of n (intervals_in items))) station.2 (All-contains (CanOpen (intervals_in items)) (workstations_in items) station.0 can.workstations.opening station.1)

  kept_apart : AllPairs (Kept as_interval (Kept (own_interval w) AreApart)) items
  kept_apart =
      pairs_from_differ (Kept as_interval (Kept (own_interval w) AreApart)) items
      (differ_kept as_interval (Kept (own_interval w) AreApart) items (differ_kept (own_interval w) AreApart (intervals_in items) (differ_from_pairs AreApart (intervals_of w (intervals_in items)) opening_in_plan.apart)))

  own : (x : OpenInterval) → own_interval w (w, x) ≡ Some x
  own x = own_is name_cmp_total name_cmp-IsAntisymmetric w (w, x) refl

  pub apart_in_plan : (i j : ℕ) (d : Item) (x y : OpenInterval) → i < j → j < length items → get_or items i d ≡ item.Interval w x → get_or items j d ≡ item.Interval w y → AreApart x y
  apart_in_plan i j d x y lt within at_i at_j = kept_apart i j d lt within (w, x) (w, y) (ap as_interval at_i) (ap as_interval at_j) x y (own x) (own y)
