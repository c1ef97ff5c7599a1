-- Intervals that overlap: going back over those of one workstation, the first that is met is told.
use Rattle.std.proofs.Common.{◌≡◌, inl, inr, sym, ap, subst, ◌∙◌, arith, ℕ, zero, suc, ◌<◌, ◌≤◌, List, [], ◌∷◌, length, get_or, Option, Some, None, MatchOption}
use Rattle.std.proofs.lemmas.Bool.{cases_lt}
use Rattle.std.proofs.lemmas.Option.{none-some, same_Some}
use Rattle.plan_basics.specs.Intervals.{OpenInterval, AreApart}
use Rattle.plan_basics.specs.Keys.{Name}
use Rattle.plan_items.specs.declared.Item.{Item}
use Rattle.plan_items.specs.declared.Item.TheVariants as item
use Rattle.record_faults.specs.declared.faults.Fault.{Fault}
use Rattle.record_faults.specs.declared.faults.Fault.TheVariants as fault
use Rattle.record_faults.specs.declared.groups.Group.TheVariants as group
use Rattle.record_faults.specs.Sayings.{Sayings, IsGiven}
use Rattle.record_faults.specs.Groups.{group_of, grouped, IsLastIfAny, AreEarlier}
use Rattle.plan_drafts.specs.PlanItems.{as_interval}
use Rattle.record_faults.specs.Faults.{interval_said, DoOverlap, OverlapAt, IsOverlap, IsAnswer}

-- how many places there are up to one
abbrev pub places_to : Option ℕ → ℕ
places_to None = 0
places_to (Some p) = suc p

-- what is read of a list within it, whatever is read past its end
pub read_by : {X : Type 0} (xs : List X) (i : ℕ) (r d : X) → i < length xs → r ≡ get_or xs i r → r ≡ get_or xs i d
read_by [] i r d lt is = absurd (omega (arith, lt))
read_by (x ∷ xs) zero r d lt is = is
read_by (x ∷ xs) (suc i) r d lt is = read_by xs i r d (omega (arith, lt)) is

-- ---- of what overlaps
-- what an item says of an interval
item_of_interval : (x : Item) (y : Name × OpenInterval) → as_interval x ≡ Some y → group_of x ≡ group.IntervalsOf y.0
item_of_interval (item.Interval w x) y e = ap (λ (q : Name × OpenInterval). group.IntervalsOf q.0) (same_Some (w, x) y e)
item_of_interval x y e = absurd (none-some y e)

group_at : (said : Sayings) (i : ℕ) (y : Name × OpenInterval) → interval_said (get_or said i None) ≡ Some y → IsGiven (grouped said) (group.IntervalsOf y.0) i
group_at [] i y e = absurd (none-some y e)
group_at (None ∷ said) zero y e = absurd (none-some y e)
group_at (Some x ∷ said) zero y e = ap (λ g. Some (Some g)) (item_of_interval x y e)
group_at (s ∷ said) (suc i) y e = group_at said i y e

-- two that are told of one record are the same
one_interval : (o : Option Item) (y z : Name × OpenInterval) → interval_said o ≡ Some y → interval_said o ≡ Some z → y ≡ z
one_interval o y z e f = same_Some y z (sym e ∙ f)

-- where there are two intervals
pub overlap_by : (a b : Option Item) (y z : Name × OpenInterval) → interval_said a ≡ Some y → interval_said b ≡ Some z → DoOverlap a b → (y.0 ≡ z.0) × ¬ AreApart y.1 z.1
overlap_by a b y z e f h =
    let first : h.0 ≡ y = one_interval a h.0 y h.2 e in
    let second : h.1 ≡ z = one_interval b h.1 z h.3 f in
    subst (λ q. (q.0 ≡ z.0) × ¬ AreApart q.1 z.1) first (subst (λ q. (h.0.0 ≡ q.0) × ¬ AreApart h.0.1 q.1) second (h.4, h.5))

-- and where there are, they overlap if they have a minute in common
pub overlap_from : (a b : Option Item) (y z : Name × OpenInterval) → interval_said a ≡ Some y → interval_said b ≡ Some z → y.0 ≡ z.0 → ¬ AreApart y.1 z.1 → DoOverlap a b
overlap_from a b y z e f same apart = (y, z, e, f, same, apart)

pub no_first : (a b : Option Item) → interval_said a ≡ None → ¬ DoOverlap a b
no_first a b e h = none-some h.0 (sym e ∙ h.2)

pub no_second : (a b : Option Item) → interval_said b ≡ None → ¬ DoOverlap a b
no_second a b e h = none-some h.1 (sym e ∙ h.3)

module _ (said : Sayings) (place : ℕ) where
  pub no_interval : interval_said (get_or said place None) ≡ None → IsAnswer (IsOverlap said place) None
  no_interval none (fault.Overlaps i) h = no_second (get_or said i None) (get_or said place None) none h.1
  no_interval none _ h = h

  pub none_before : ((i : ℕ) → i < place → ¬ OverlapAt said i place) → IsAnswer (IsOverlap said place) None
  none_before none (fault.Overlaps i) h = none i h.0 h.1
  none_before none _ h = h

  one_overlap : (a : ℕ) → a < place → OverlapAt said a place → ((i : ℕ) → a < i → i < place → ¬ OverlapAt said i place) → (g : Fault) → IsOverlap said place g → g ≡ fault.Overlaps a
  one_overlap a lt is none (fault.Overlaps b) h = ap (λ z. fault.Overlaps z) (elim (cases_lt a b) [
    | inl less ↦ absurd (none b less h.0 h.1)
    | inr le ↦ elim (cases_lt b a) [ inl less ↦ absurd (h.2 a less lt is) | inr more ↦ omega (arith, le, more) ]
  ])
  one_overlap a lt is none _ h = absurd h

  pub last_overlap : (a : ℕ) → a < place → OverlapAt said a place → ((i : ℕ) → a < i → i < place → ¬ OverlapAt said i place) → IsAnswer (IsOverlap said place) (Some (fault.Overlaps a))
  last_overlap a lt is none = ((lt, is, none), one_overlap a lt is none)

  -- ---- going back
  -- of the workstation's intervals before the place only those up to this one may overlap it
  abbrev pub IsLeft : List ℕ → Option ℕ → Type 0
  IsLeft w next = MatchOption next ((i : ℕ) → i < place → ¬ OverlapAt said i place) (λ p. (p < place) × IsGiven (grouped said) (group.IntervalsOf w) p × ((i : ℕ) → p < i → i < place → ¬ OverlapAt said i place))

  module _ (z : Name × OpenInterval) (here : interval_said (get_or said place None) ≡ Some z) where
    -- what overlaps is an interval of the workstation
    of_group : (i : ℕ) → OverlapAt said i place → IsGiven (grouped said) (group.IntervalsOf z.0) i
    of_group i h =
        let second : h.1 ≡ z = one_interval (get_or said place None) h.1 z h.3 here in
        subst (λ n. IsGiven (grouped said) (group.IntervalsOf n) i) (h.4 ∙ ap (λ (q : Name × OpenInterval). q.0) second) (group_at said i h.0 h.2)

    left_by : (n : ℕ) (next : Option ℕ) → n ≤ place → ((i : ℕ) → n ≤ i → i < place → ¬ OverlapAt said i place) → IsLastIfAny (grouped said) n (group.IntervalsOf z.0) next → IsLeft z.0 next
    left_by n None le none last = λ i lt h. elim (cases_lt i n) [ inl less ↦ last i less (of_group i h) | inr more ↦ none i more lt h ]
    left_by n (Some p) le none last =
        let before = last.before in
        (omega (arith, before, le), last.here, λ i after lt h. elim (cases_lt i n) [ inl less ↦ last.none_after i after less (of_group i h) | inr more ↦ none i more lt h ])

    pub left_first : (earlier : List (Option ℕ)) → AreEarlier (grouped said) earlier → IsLeft z.0 (get_or earlier place None)
    left_first earlier are = left_by place (get_or earlier place None) (omega arith) (λ i le lt h. omega (arith, le, lt)) (are place (group.IntervalsOf z.0) (group_at said place z here))

    pub left_next : (earlier : List (Option ℕ)) (p : ℕ) → AreEarlier (grouped said) earlier → IsLeft z.0 (Some p) → ¬ OverlapAt said p place → IsLeft z.0 (get_or earlier p None)
    left_next earlier p are left apart =
        let lt = left.0 in
        left_by p (get_or earlier p None) (omega (arith, lt)) (λ i le before h. elim (cases_lt p i) [
          | inl after ↦ left.2 i after before h
          | inr more ↦ let same : i ≡ p = omega (arith, le, more) in apart (subst (λ k. OverlapAt said k place) same h)
        ]) (are p (group.IntervalsOf z.0) left.1)

    -- and there are fewer places each time
    pub fewer : (earlier : List (Option ℕ)) (p : ℕ) → AreEarlier (grouped said) earlier → IsLeft z.0 (Some p) → places_to (get_or earlier p None) < places_to (Some p)
    fewer earlier p are left = at (get_or earlier p None) (are p (group.IntervalsOf z.0) left.1)
      where
        at : (next : Option ℕ) → IsLastIfAny (grouped said) p (group.IntervalsOf z.0) next → places_to next < suc p
        at None last = omega arith
        at (Some q) last = let before = last.before in omega (arith, before)
