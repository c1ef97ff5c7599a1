-- The intervals of a workstation, as a list and under their first minutes.
use Rattle.std.proofs.Common.{◌≡◌, ◌↔◌, inl, inr, arith, ◌+◌, ◌≤◌, refl, sym, ap, subst, ◌∙◌, ℕ, ◌<◌, List, [], ◌∷◌, get_or, length, map, slice_get, Some, None, option_map, Contains, Bool, true, false, IsTrue, true≢false, not}
use Rattle.std.specs.Cmp.{nat_cmp_total}
use Rattle.std.specs.FinMap.{from_entries, get, get-from_entries, nat_cmp-IsAntisymmetric}
use Rattle.std.specs.List.Sorted.{IsStrictlySortedBy}
use Rattle.std.specs.Ordering.{nat_cmp}
use Rattle.std.proofs.lemmas.Bool.{cases_lt}
use Rattle.std.proofs.lemmas.Option.{none-some, same_Some, slice_get-get_or, slice_get-map}
use Rattle.plan_basics.proofs.Members.{row_found}
use Rattle.plan_basics.specs.Intervals.{OpenInterval}
use Rattle.plan_drafts.proofs.RowPlaces.{get_at}
use Rattle.plan_drafts.specs.plan_model.specs.Plan.{Plan}
use Rattle.plan_items.specs.declared.OperationItem.{OperationItem}
use Rattle.plan_reasons.proofs.Openings.{keys_by, row_by}
use Rattle.record_faults.proofs.Circling.{whatever_default}
use Rattle.record_faults.specs.Warnings.{StartsAreKnown}
use Rattle.workstations.specs.Workstations.{Workstation}
use Rattle.extension_faults.specs.Warned.{HoldsAfter, HoldsLater, NeverHolds, NeverStarts}

-- some interval of a list does so
abbrev pub SomeHolds : List OpenInterval → OperationItem → ℕ → Type 0
SomeHolds items o clock = (x : OpenInterval) × Contains items x × HoldsAfter o clock x

module _ (ws : Workstation) (items : List OpenInterval) (same : ws.intervals ≡ from_entries (map row_by items)) (sorted : IsStrictlySortedBy nat_cmp (map (λ (x : OpenInterval). x.from) items)) (o : OperationItem) (clock : ℕ) where
  listed : HoldsLater ws o clock → SomeHolds items o clock
  listed (from, x, there, holds) =
      let found = sym (get-from_entries nat_cmp_total (map row_by items) from) ∙ ap (λ all. get all from) (sym same) ∙ there in
      let r = row_found nat_cmp nat_cmp-IsAntisymmetric (λ (y : OpenInterval). y.from) (λ (y : OpenInterval). y) items from x found in
      (x, subst (Contains items) r.3 r.1, holds)

  kept : SomeHolds items o clock → HoldsLater ws o clock
  kept (x, (i, lt, at), holds) =
      let row : slice_get (map row_by items) i ≡ Some (x.from, x) = slice_get-map row_by items i ∙ ap (option_map row_by) (slice_get-get_or items i x lt ∙ ap Some at) in
      (x.from, x, ap (λ all. get all x.from) same ∙ get_at nat_cmp nat_cmp_total nat_cmp-IsAntisymmetric (map row_by items) (subst (IsStrictlySortedBy nat_cmp) (sym (keys_by items)) sorted) i x.from x row, holds)

  -- none of the list does so, and starts are known
  pub never_held : (known some : Bool) → IsTrue known ↔ StartsAreKnown ws.attribute → IsTrue some ↔ SomeHolds items o clock → known ≡ true → IsTrue (not some) ↔ NeverHolds ws o clock
  never_held known true is held told = (λ h. absurd (true≢false (sym h)), λ never. absurd (never.1 (kept (held.0 refl))))
  never_held known false is held told = (λ _. (is.0 told, λ later. true≢false (sym (held.1 (listed later)))), λ _. refl)

-- where starts aren't known nothing is told
pub never_known : (ws : Workstation) (o : OperationItem) (clock : ℕ) (known : Bool) → IsTrue known ↔ StartsAreKnown ws.attribute → known ≡ false → ¬ NeverHolds ws o clock
never_known ws o clock known is unknown never = true≢false (sym (is.1 never.0) ∙ unknown)

-- ---- one after another
pub none_later : (items : List OpenInterval) (o : OperationItem) (clock i : ℕ) (x : OpenInterval) → i < length items → x ≡ get_or items i x → ((k : ℕ) (d : OpenInterval) → k < i → ¬ HoldsAfter o clock (get_or items k d)) → ¬ HoldsAfter o clock x
    → (k : ℕ) (d : OpenInterval) → k < i + 1 → ¬ HoldsAfter o clock (get_or items k d)
none_later items o clock i x lt is before never k d below = elim (cases_lt k i) [
  | inl less ↦ before k d less
  | inr most ↦
      let same : k ≡ i = omega (arith, below, most) in
      λ holds. never (subst (HoldsAfter o clock) (ap (λ j. get_or items j d) same ∙ (whatever_default items i d x lt ∙ sym is)) holds)
]

pub none_so_far : (items : List OpenInterval) (o : OperationItem) (clock n : ℕ) → length items ≤ n → ((k : ℕ) (d : OpenInterval) → k < n → ¬ HoldsAfter o clock (get_or items k d)) → IsTrue false ↔ SomeHolds items o clock
none_so_far items o clock n all none = (
  λ wrong. absurd (true≢false (sym wrong)),
  λ h. absurd (none h.1.0 h.0 (let lt = h.1.1 in omega (arith, lt, all)) (subst (HoldsAfter o clock) (sym h.1.2) h.2)),
)

-- ---- in a plan
pub never_at : (P : Plan) (o : OperationItem) (ws : Workstation) → get P.contents.workstations o.workstation ≡ Some ws → (b : Bool) → IsTrue b ↔ NeverHolds ws o P.clock → IsTrue b ↔ NeverStarts P o
never_at P o ws is b never = (
  λ h. (ws, is, never.0 h),
  λ h. never.1 (subst (λ (v : Workstation). NeverHolds v o P.clock) (same_Some h.0 ws (sym h.1 ∙ is)) h.2),
)

pub never_there : (P : Plan) (o : OperationItem) → get P.contents.workstations o.workstation ≡ None → ¬ NeverStarts P o
never_there P o none h = none-some h.0 (sym none ∙ h.1)
