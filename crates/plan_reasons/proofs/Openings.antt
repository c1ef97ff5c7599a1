-- The next interval of a workstation, by its intervals in order of time.
use Rattle.std.proofs.Common.{◌≡◌, inl, inr, refl, sym, ap, subst, ◌∙◌, arith, ℕ, ◌<◌, ◌≤◌, List, [], ◌∷◌, get_or, length, map, slice_get, Some, None, Option, option_map}
use Rattle.std.specs.Cmp.{nat_cmp_total}
use Rattle.std.specs.FinMap.{from_entries, get, get-from_entries, nat_cmp-IsAntisymmetric}
use Rattle.std.specs.List.Sorted.{IsStrictlySortedBy}
use Rattle.std.specs.Map.{keys_of}
use Rattle.std.specs.Ordering.{nat_cmp}
use Rattle.std.proofs.lemmas.Bool.{cases_lt}
use Rattle.std.proofs.lemmas.List.{get_or-map, length-map}
use Rattle.std.proofs.lemmas.Map.Keys.{non_decreasing_from_sorted}
use Rattle.std.proofs.lemmas.Option.{slice_get-get_or, slice_get-map}
use Rattle.plan_basics.proofs.Members.{row_found}
use Rattle.plan_basics.specs.Intervals.{OpenInterval}
use Rattle.plan_drafts.proofs.RowPlaces.{get_at}
use Rattle.workstations.specs.Workstations.{Workstation}
use Rattle.plan_reasons.specs.Reasons.{BeginsAt, IsNextOpening}

-- an interval under its first minute
abbrev pub row_by : OpenInterval → ℕ × OpenInterval
row_by x = (x.from, x)

pub keys_by : (items : List OpenInterval) → keys_of (map row_by items) ≡ map (λ x. x.from) items
keys_by [] = refl
keys_by (x ∷ items) = ap (λ ks. x.from ∷ ks) (keys_by items)

module _ (ws : Workstation) (items : List OpenInterval) (same : ws.intervals ≡ from_entries (map row_by items)) (sorted : IsStrictlySortedBy nat_cmp (map (λ (x : OpenInterval). x.from) items)) (m : ℕ) where
  -- an interval is at some index
  its_place : (n : ℕ) → BeginsAt ws n → (i : ℕ) × (i < length items) × ((d : OpenInterval) → (get_or items i d).from ≡ n)
  its_place n (x, e) =
      let found = sym (get-from_entries nat_cmp_total (map row_by items) n) ∙ ap (λ all. get all n) (sym same) ∙ e in
      let r = row_found nat_cmp nat_cmp-IsAntisymmetric (λ (y : OpenInterval). y.from) (λ (y : OpenInterval). y) items n x found in
      (r.1.0, r.1.1, λ d. ap (λ (y : OpenInterval). y.from) (any d r.1.0 r.0 items r.1.1 r.1.2) ∙ r.2)
    where
      any : (d : OpenInterval) (i : ℕ) (y : OpenInterval) (xs : List OpenInterval) → i < length xs → get_or xs i y ≡ y → get_or xs i d ≡ y
      any d i y xs lt at = let a = slice_get-get_or xs i d lt in let b = slice_get-get_or xs i y lt in cc

  -- and what is at an index begins then
  begins_at : (i : ℕ) (d : OpenInterval) → i < length items → BeginsAt ws (get_or items i d).from
  begins_at i d lt =
      let x = get_or items i d in
      let there : slice_get (map row_by items) i ≡ Some (x.from, x) = slice_get-map row_by items i ∙ ap (option_map row_by) (slice_get-get_or items i d lt) in
      (x, ap (λ all. get all x.from) same ∙ get_at nat_cmp nat_cmp_total nat_cmp-IsAntisymmetric (map row_by items) (subst (IsStrictlySortedBy nat_cmp) (sym (keys_by items)) sorted) i x.from x there)

  from_at : (i : ℕ) (d : OpenInterval) → i < length items → get_or (map (λ (x : OpenInterval). x.from) items) i 0 ≡ (get_or items i d).from
  from_at i d lt = get_or-map (λ (x : OpenInterval). x.from) items i d 0 lt

  -- later ones begin later
  rises : (i j : ℕ) (d : OpenInterval) → i ≤ j → j < length items → (get_or items i d).from ≤ (get_or items j d).from
  rises i j d le lt =
      let up = non_decreasing_from_sorted (map (λ (x : OpenInterval). x.from) items) sorted i j 0 le (omega (arith, lt, length-map items (λ (x : OpenInterval). x.from))) in
      omega (arith, up, from_at i d (omega (arith, le, lt)), from_at j d lt)

  -- the first that begins after m
  pub first_after : (i : ℕ) (d : OpenInterval) → i < length items → ((k : ℕ) (e : OpenInterval) → k < i → (get_or items k e).from ≤ m) → m < (get_or items i d).from
      → IsNextOpening ws m (Some (get_or items i d).from)
  first_after i d lt passed after = (
    after,
    begins_at i d lt,
    λ k begins later.
        let p = its_place k begins in
        let at = p.2 d in
        elim (cases_lt p.0 i) [
          | inl before ↦ let low = passed p.0 d before in absurd (omega (arith, low, at, later))
          | inr from_on ↦ let up = rises i p.0 d from_on p.1 in omega (arith, up, at)
        ],
  )

  -- none does
  pub none_after : ((k : ℕ) (e : OpenInterval) → k < length items → (get_or items k e).from ≤ m) → IsNextOpening ws m None
  none_after passed k begins = let p = its_place k begins in let x = begins.0 in let at = p.2 x in let low = passed p.0 x p.1 in omega (arith, low, at)

-- there is one next opening
pub one_opening : (ws : Workstation) (m : ℕ) (a b : Option ℕ) → IsNextOpening ws m a → IsNextOpening ws m b → a ≡ b
one_opening ws m None None h k = refl
one_opening ws m (Some x) (Some y) h k = let le = h.2 y k.1 k.0 in let ge = k.2 x h.1 h.0 in let e : x ≡ y = omega (arith, le, ge) in ap Some e
one_opening ws m (Some x) None h k = let low = k x h.1 in let high = h.0 in absurd (omega (arith, low, high))
one_opening ws m None (Some y) h k = let low = h y k.1 in let high = k.0 in absurd (omega (arith, low, high))
