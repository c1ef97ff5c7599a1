-- The intervals of one workstation: apart, and found by their first minutes.
use Rattle.std.proofs.Common.{◌≡◌, ◌≢◌, inl, inr, sym, subst, ap, ◌∙◌, arith, ℕ, ◌≤◌, true, List, map, length, get_or, Contains, Some}
use Rattle.std.specs.List.{AllPairs}
use Rattle.std.specs.Map.{keys_of}
use Rattle.std.specs.Cmp.{nat_cmp_total}
use Rattle.std.specs.FinMap.{empty, get, contains_key, nat_cmp-IsAntisymmetric}
use Rattle.std.proofs.lemmas.Bool.{cases_lt}
use Rattle.std.proofs.lemmas.List.Elements.{All-contains, Contains-get_or}
use Rattle.plan_basics.specs.declared.limits.TheConstants.{MOST_INTERVALS}
use Rattle.plan_basics.specs.declared.Attr.{Attr}
use Rattle.plan_basics.specs.Keys.{Name, name_cmp_total, name_cmp-IsAntisymmetric}
use Rattle.plan_basics.specs.Intervals.{OpenInterval, IsInterval, AreApart}
use Rattle.plan_model.specs.workstations.specs.Workstations.{Workstation, IsWorkstation, with_intervals}
use Rattle.plan_model.specs.workstations.proofs.Lookups.{entries_of, timetable_of, got_among, opened_is}
use Rattle.plan_drafts.specs.PlanItems.{own_interval, intervals_of, IsOpening, CanOpen, AreWorkstations}
use Rattle.plan_drafts.proofs.Lists.{all_by_members, Differ, differ_from_pairs, pairs_from_differ, differ_weaken, differ_map, differ_kept, Kept, in_map, from_map}
use Rattle.plan_drafts.proofs.Tables.{is_found, get_row}
use Rattle.plan_denotation.proofs.ItemKinds.{interval_key}
use Rattle.plan_drafts.proofs.Keyed.{own_is, from_own}

-- all are in range
abbrev pub AreLegal : List (Name × OpenInterval) → Type 0
AreLegal intervals = (y : Name × OpenInterval) → Contains intervals y → IsInterval y.1

abbrev pub AreIntervals : List OpenInterval → Type 0
AreIntervals xs = (x : OpenInterval) → Contains xs x → IsInterval x

pub own_legal : (intervals : List (Name × OpenInterval)) (name : Name) → AreLegal intervals → AreIntervals (intervals_of name intervals)
own_legal intervals name legal x has = legal (name, x) (from_own name_cmp_total name_cmp-IsAntisymmetric intervals name x has)

-- intervals that are apart begin at different minutes
clash : (a b : OpenInterval) → IsInterval a → IsInterval b → AreApart a b → a.from ≡ b.from → ⊥
clash a b la lb (inl h) e = let i = la.not_empty in omega (arith, i, h, e)
clash a b la lb (inr h) e = let i = lb.not_empty in omega (arith, i, h, e)

starts_differ : (xs : List OpenInterval) → AreIntervals xs → AllPairs AreApart xs → Differ (λ x y. x.from ≢ y.from) xs
starts_differ xs legal apart = differ_weaken AreApart (λ x y. x.from ≢ y.from) xs (λ a b in_a in_b h same. clash a b (legal a in_a) (legal b in_b) h same) (differ_from_pairs AreApart xs apart)

-- no two have one workstation and one first minute
pub intervals_apart :
    (stations : List (Name × Attr)) (intervals : List (Name × OpenInterval)) → AreLegal intervals → AreWorkstations stations intervals →
    Differ (λ y z. interval_key y ≢ interval_key z) intervals
intervals_apart stations intervals legal are = differ_from_pairs (λ y z. interval_key y ≢ interval_key z) intervals (λ i j d before in_list same.
    let y : Name × OpenInterval = get_or intervals i d in
    let z : Name × OpenInterval = get_or intervals j d in
    let named = All-contains (λ (s : Name × OpenInterval). Contains (keys_of stations) s.0) intervals y are.no_others (Contains-get_or intervals i d (omega arith)) in
    let r = from_map (λ (row : Name × Attr). row.0) stations y.0 named in
    let w : Name = r.0.0 in
    let opening : IsOpening (intervals_of w intervals) = All-contains (CanOpen intervals) stations r.0 are.opening r.1 in
    let starts = starts_differ (intervals_of w intervals) (own_legal intervals w legal) opening.apart in
    let R : OpenInterval → OpenInterval → Type 0 = λ a b. a.from ≢ b.from in
    let kept = pairs_from_differ (Kept (own_interval w) R) intervals (differ_kept (own_interval w) R intervals starts) in
    kept i j d before in_list y.1 z.1 (own_is name_cmp_total name_cmp-IsAntisymmetric w y (sym r.2)) (own_is name_cmp_total name_cmp-IsAntisymmetric w z (sym (ap (λ q. q.0) same) ∙ sym r.2)) (ap (λ q. q.1) same))

-- ---- the map of intervals that can be taken
module _ (xs : List OpenInterval) (legal : AreIntervals xs) (opening : IsOpening xs) where
  entries_apart : Differ (λ (a b : ℕ × OpenInterval). a.0 ≢ b.0) (entries_of xs)
  entries_apart = differ_map (λ (x : OpenInterval). (x.from, x)) (λ a b. a.0 ≢ b.0) xs (starts_differ xs legal opening.apart)

  pub got_by : (x : OpenInterval) → Contains xs x → get (timetable_of xs) x.from ≡ Some x
  got_by x has = get_row nat_cmp_total nat_cmp-IsAntisymmetric (entries_of xs) x.from x entries_apart (in_map (λ (z : OpenInterval). (z.from, z)) xs x has)

  -- what is open in them is a workstation
  pub opened_with : (attr : Attr) → IsWorkstation (with_intervals xs (record { attribute = attr; intervals = empty }))
  opened_with attr = opened_is xs (all_by_members IsInterval xs legal) opening.apart opening.few (record { attribute = attr; intervals = empty })

-- a first minute that is found is said of the workstation
pub first_said :
    (intervals : List (Name × OpenInterval)) (name : Name) (m : ℕ) → contains_key (timetable_of (intervals_of name intervals)) m ≡ true →
    Contains (map interval_key intervals) (name, m)
first_said intervals name m e =
    let found = is_found (get (timetable_of (intervals_of name intervals)) m) e in
    let r = got_among (intervals_of name intervals) m found.0 found.1 in
    subst (λ k. Contains (map interval_key intervals) (name, k)) (sym r.0) (in_map interval_key intervals (name, found.0) (from_own name_cmp_total name_cmp-IsAntisymmetric intervals name found.0 r.1))

-- ---- intervals of a workstation can be taken
separate : (ws : Workstation) → IsWorkstation ws → (a b : OpenInterval) → get ws.intervals a.from ≡ Some a → get ws.intervals b.from ≡ Some b → a.from ≢ b.from → AreApart a b
separate ws is a b in_a in_b differ = elim (cases_lt b.from a.end) [
  | inr past ↦ inl past
  | inl within ↦ elim (cases_lt a.from b.end) [
    | inr past ↦ inr past
    | inl inside ↦ absurd (elim (cases_lt a.from b.from) [
      | inl first ↦ let some = (is.intervals b.from b in_b).1.not_empty in differ (is.disjoint a.from b.from b.from a b in_a in_b (omega (arith, first), within) (omega arith, some))
      | inr second ↦ let some = (is.intervals a.from a in_a).1.not_empty in differ (is.disjoint a.from b.from a.from a b in_a in_b (omega arith, some) (second, inside))
    ])
  ]
]

pub opening_by :
    (ws : Workstation) → IsWorkstation ws → (xs : List OpenInterval) → Differ (λ x y. x.from ≢ y.from) xs →
    ((x : OpenInterval) → Contains xs x → get ws.intervals x.from ≡ Some x) → length xs ≤ MOST_INTERVALS → IsOpening xs
opening_by ws is xs starts there few = record {
  few = few;
  apart = pairs_from_differ AreApart xs (differ_weaken (λ x y. x.from ≢ y.from) AreApart xs (λ a b in_a in_b differ. separate ws is a b (there a in_a) (there b in_b) differ) starts);
}
