-- The holders of one special resource: whether an exclusive one is beside another.
use Rattle.std.proofs.Common.{◌≡◌, ◌≢◌, ◌⊎◌, ◌↔◌, inl, inr, refl, sym, ap, ap₂, ◌∙◌, subst, arith, ℕ, ◌<◌, List, All, Contains, length, map, get_or, slice_get, Some, Less, Bool}
use Rattle.std.specs.FinMap.{get}
use Rattle.std.proofs.Math.ListN.{get_or-map}
use Rattle.std.proofs.lemmas.Bool.{cases_eq, cases_lt}
use Rattle.std.proofs.lemmas.List.{length-map}
use Rattle.std.proofs.lemmas.List.Elements.{All-contains, Contains-get_or}
use Rattle.std.proofs.lemmas.Map.Keys.{Less-from_sorted}
use Rattle.std.proofs.lemmas.Option.{same_Some, slice_get_within}
use Rattle.plan_basics.proofs.Members.{place_of}
use Rattle.plan_basics.specs.Keys.{Name}
use Rattle.plan_basics.specs.declared.keys.OpKey.{OpKey}
use Rattle.special_resources.proofs.Orders.{holding_cmp_total}
use Rattle.special_resources.specs.Holders.{Usage}
use Rattle.special_resources.specs.Holdings.{AreInOrder, Held, holding_cmp, holding_of}
use Rattle.special_resources.specs.declared.Mode.TheVariants.{Shared}
use Rattle.special_resources.specs.declared.holders.Holder.{Holder}
use Rattle.plan_rows.specs.start_choice.specs.Choices.{AreHeldIn}
use Rattle.plan_drafts.proofs.Tables.{is_found}
use Rattle.plan_rows.specs.plan_laws.proofs.Sorted.{not_itself}
use Rattle.plan_model.specs.Contents.{Contents}
use Rattle.plan_model.specs.Holdings.{Holds}
use Rattle.plan_model.specs.declared.Stock.{Stock}
use Rattle.plan_model.specs.Valid.{IsValid}
use Rattle.plan_opening.specs.Laws.{HasCompatibleHolders, HoldersAreCompatible}

-- holders at two indices are two holdings
apart : (items : List Holder) → AreInOrder items → (k i : ℕ) (d : Holder) → k < i → i < length items → holding_of (get_or items k d) ≡ holding_of (get_or items i d) → ⊥
apart items sorted k i d less within same =
    let up = Less-from_sorted holding_cmp (map holding_of items) k i (holding_of d) sorted less (omega (arith, within, length-map items holding_of)) in
    let later : holding_cmp (holding_of (get_or items k d)) (holding_of (get_or items i d)) ≡ Less =
    ap₂ holding_cmp (sym (get_or-map holding_of items k d)) (sym (get_or-map holding_of items i d)) ∙ up in
    not_itself holding_cmp_total (holding_of (get_or items i d)) (ap (λ z. holding_cmp z (holding_of (get_or items i d))) (sym same) ∙ later)

module _ (P : Contents) (held : Held) (are : AreHeldIn P held) (r : Name) (items : List Holder)
    (members : (h : Holder) → Contains items h ↔ ((h.resource ≡ r) × (get held (holding_of h) ≡ Some h.claim))) where
  pub holder : (o : OpKey) (usage : Usage) → Holds P o r usage → Contains items (record { resource = r; operation = o; claim = usage.claim })
  holder o usage holds = (members (record { resource = r; operation = o; claim = usage.claim })).1 (refl, (are o r usage.claim).1 (usage.keep, holds))

  -- a holder holds it, as it says
  pub told : (h : Holder) → Contains items h → (h.resource ≡ r) × ((keep : Bool) × Holds P h.operation r (record { claim = h.claim; keep = keep }))
  told h has =
      let it = (members h).0 has in
      (it.0, (are h.operation r h.claim).0 (subst (λ z. get held (z, h.operation) ≡ Some h.claim) it.0 it.1))

  -- there is one at most, or all share
  pub compatible_by : (length items < 2) ⊎ All (λ (h : Holder). h.claim.mode ≡ Shared) items → HasCompatibleHolders P r
  compatible_by (inl few) a b x y differs first second =
      let here = place_of items _ (holder a x first) in
      let there = place_of items _ (holder b y second) in
      let low = slice_get_within items here.0 _ here.1 in
      let high = slice_get_within items there.0 _ there.1 in
      let same : here.0 ≡ there.0 = omega (arith, low, high, few) in
      absurd (differs (ap (λ (h : Holder). h.operation) (same_Some _ _ (sym here.1 ∙ ap (slice_get items) same ∙ there.1))))
  compatible_by (inr all) a b x y differs first second = All-contains (λ (h : Holder). h.claim.mode ≡ Shared) items _ all (holder a x first)

  module _ (sorted : AreInOrder items) (compatible : HasCompatibleHolders P r) where
    -- another holder beside this one
    uncounted : (k : ℕ) (d : Holder) → 1 < length items → k < length items → (j : ℕ) × (j < length items) × (holding_of (get_or items k d) ≢ holding_of (get_or items j d))
    uncounted k d many within = elim (cases_eq k 0) [
      | inl first ↦ (1, many, apart items sorted k 1 d (omega (arith, first)) many)
      | inr later ↦ (0, omega (arith, many), λ same. apart items sorted 0 k d (omega (arith, later)) within (sym same))
    ]

    shares : 1 < length items → (k : ℕ) (d : Holder) → k < length items → (get_or items k d).claim.mode ≡ Shared
    shares many k d within =
        let other = uncounted k d many within in
        let first = told (get_or items k d) (Contains-get_or items k d within) in
        let second = told (get_or items other.0 d) (Contains-get_or items other.0 d other.1) in
        compatible (get_or items k d).operation (get_or items other.0 d).operation _ _
        (λ own. other.2 (λ i. ((first.0 ∙ sym second.0) i, own i))) first.1.1 second.1.1

    pub by_compatible : (length items < 2) ⊎ All (λ (h : Holder). h.claim.mode ≡ Shared) items
    by_compatible = elim (cases_lt (length items) 2) [ inl few ↦ inl few | inr many ↦ inr (shares (omega (arith, many))) ]

-- what is held is among the plan's resources
pub all_compatible : (P : Contents) → IsValid P → ((r : Name) (stock : Stock) → get P.resources r ≡ Some stock → HasCompatibleHolders P r) → HoldersAreCompatible P
all_compatible P valid each r a b x y differs holds other =
    let there = is_found (get P.resources r) (valid.have_resources a holds.0 holds.1 r x holds.2.0) in
    each r there.0 there.1 a b x y differs holds other
