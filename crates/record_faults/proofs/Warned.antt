-- Operations that may run in an interval of their workstation: going back over these from the last, one is met or none is.
use Rattle.std.proofs.Common.{◌≡◌, inl, inr, refl, sym, ap, subst, ◌∙◌, arith, ℕ, zero, suc, ◌+◌, ◌<◌, ◌≤◌, ◌⊎◌, Contains, List, [], ◌∷◌, length, get_or, slice_get, Option, Some, None, MatchOption, unwrap_or, is_some, Bool, true, false, not, IsTrue, ◌↔◌, true≢false}
use Rattle.std.proofs.lemmas.Bool.{cases_lt}
use Rattle.std.proofs.lemmas.Option.{same_Some, slice_get-get_or, slice_get_within}
use Rattle.plan_basics.specs.Intervals.{OpenInterval}
use Rattle.plan_basics.specs.Keys.{Name}
use Rattle.plan_items.specs.declared.Item.{Item}
use Rattle.plan_items.specs.declared.Item.TheVariants as item
use Rattle.plan_items.specs.declared.OperationItem.{OperationItem}
use Rattle.record_faults.specs.declared.groups.Group.TheVariants as group
use Rattle.record_faults.specs.Sayings.{Sayings, SaysAt, IsGiven}
use Rattle.record_faults.specs.Groups.{group_of, grouped, IsLastIfAny, AreEarlier}
use Rattle.record_faults.specs.Sayings.{given, place_in, IsFirst, IsIndex}
use Rattle.plan_items.specs.Items.{Fields}
use Rattle.record_faults.specs.Sayings.{AreSayings}
use Rattle.record_faults.specs.Warnings.{Holds, Opens, IsHeld, IsLate, IsDeadlineOf, NeverOpens, IsBeyondIntervals, IsTooLate, IsWarningAt, IsWarning, AreWarningsBelow, IsDeadlineOfOccurrence, StartsAreKnown, StartsAreKnownOn}
use Rattle.record_faults.specs.declared.warnings.Warning.{Warning}
use Rattle.record_faults.specs.declared.warnings.Warning.TheVariants as warning
use Rattle.record_faults.specs.declared.warnings.RecordWarning.{RecordWarning}
use Rattle.record_faults.proofs.Finding.{one_saying}
use Rattle.plan_basics.specs.declared.Attr.{Attr}
use Rattle.plan_basics.specs.declared.keys.OccKey.{OccKey}
use Rattle.std.specs.BTreeMap.{BTreeMap}
use Rattle.plan_drafts.specs.Records.{key_of}
use Rattle.plan_drafts.specs.declared.RowKey.{RowKey}
use Rattle.plan_drafts.specs.declared.RowKey.TheVariants as key
use Rattle.record_faults.proofs.Beyond.{first_by, nowhere_by}
use Rattle.record_faults.proofs.Overlapping.{places_to}

-- what is read at a place is there, whatever else would be read past the end
pub read_as : {X : Type 0} (xs : List X) (i : ℕ) (r d : X) → i < length xs → r ≡ get_or xs i r → r ≡ get_or xs i d
read_as xs i r d lt is = same_Some r (get_or xs i d) (ap Some is ∙ sym (slice_get-get_or xs i r lt) ∙ slice_get-get_or xs i d lt)

-- what is said at a place is of its group
group_at_said : (said : Sayings) (i : ℕ) (x : Item) → SaysAt said i x → IsGiven (grouped said) (group_of x) i
group_at_said [] i x e = absurd (cc e)
group_at_said (o ∷ said) zero x e = let same : o ≡ Some x = cc e in rw same refl
group_at_said (o ∷ said) (suc i) x e = group_at_said said i x e

-- an item of that group is an interval
interval_of_group : (x : Item) (w : Name) → group_of x ≡ group.IntervalsOf w → (y : OpenInterval) × (x ≡ item.Interval w y)
interval_of_group (item.Interval v y) w e = let same : v ≡ w = cc e in (y, ap (λ n. item.Interval n y) same)
interval_of_group _ w e = absurd (cc e)

-- so a place of that group says an interval
pub said_of_group : (said : Sayings) (i : ℕ) (w : Name) → IsGiven (grouped said) (group.IntervalsOf w) i → (y : OpenInterval) × SaysAt said i (item.Interval w y)
said_of_group [] i w e = absurd (cc e)
said_of_group (None ∷ said) zero w e = absurd (cc e)
said_of_group (Some x ∷ said) zero w e =
    let same : group_of x ≡ group.IntervalsOf w = cc e in
    let found = interval_of_group x w same in
    (found.0, ap (λ y. Some (Some y)) found.1)
said_of_group (o ∷ said) (suc i) w e = said_of_group said i w e

-- a workstation opens where it has a last interval
pub opens_is : (said : Sayings) (w : Name) (last : Option ℕ) (b : Bool) → b ≡ is_some last → IsLastIfAny (grouped said) (length said) (group.IntervalsOf w) last → IsTrue b ↔ Opens said w
opens_is said w None b e is = (λ h. absurd (true≢false (sym h ∙ e)), λ h. absurd (is h.0 (slice_get_within said h.0 _ h.2) (group_at_said said h.0 (item.Interval w h.1) h.2)))
opens_is said w (Some p) b e is = (λ _. let found = said_of_group said p w is.here in (p, found.0, found.1), λ _. e)

module _ (said : Sayings) (o : OperationItem) where
  -- the place says an interval in which the operation may run
  abbrev pub IsHeldAt : ℕ → Type 0
  IsHeldAt i = (x : OpenInterval) × SaysAt said i (item.Interval o.workstation x) × Holds o x

  of_group : (i : ℕ) → IsHeldAt i → IsGiven (grouped said) (group.IntervalsOf o.workstation) i
  of_group i h = group_at_said said i (item.Interval o.workstation h.0) h.1

  -- of the workstation's intervals only those up to this one may be such
  abbrev pub IsLeftOf : Option ℕ → Type 0
  IsLeftOf next = MatchOption next ((i : ℕ) → ¬ IsHeldAt i) (λ p. IsGiven (grouped said) (group.IntervalsOf o.workstation) p × ((i : ℕ) → p < i → ¬ IsHeldAt i))

  left_by : (n : ℕ) (next : Option ℕ) → ((i : ℕ) → n ≤ i → ¬ IsHeldAt i) → IsLastIfAny (grouped said) n (group.IntervalsOf o.workstation) next → IsLeftOf next
  left_by n None none last = λ i h. elim (cases_lt i n) [ inl less ↦ last i less (of_group i h) | inr more ↦ none i more h ]
  left_by n (Some p) none last = (last.here, λ i after h. elim (cases_lt i n) [ inl less ↦ last.none_after i after less (of_group i h) | inr more ↦ none i more h ])

  pub left_all : (next : Option ℕ) → IsLastIfAny (grouped said) (length said) (group.IntervalsOf o.workstation) next → IsLeftOf next
  left_all next = left_by (length said) next (λ i le h. let lt = slice_get_within said i _ h.1 in omega (arith, lt, le))

  pub left_after : (earlier : List (Option ℕ)) (p : ℕ) → AreEarlier (grouped said) earlier → IsLeftOf (Some p) → ¬ IsHeldAt p → IsLeftOf (get_or earlier p None)
  left_after earlier p are left apart =
      left_by p (get_or earlier p None) (λ i le h. elim (cases_lt p i) [
        | inl after ↦ left.1 i after h
        | inr more ↦ let same : i ≡ p = omega (arith, le, more) in apart (subst IsHeldAt same h)
      ]) (are p (group.IntervalsOf o.workstation) left.0)

  -- and there are fewer places each time
  pub fewer_places : (earlier : List (Option ℕ)) (p : ℕ) → AreEarlier (grouped said) earlier → IsLeftOf (Some p) → places_to (get_or earlier p None) < places_to (Some p)
  fewer_places earlier p are left = at (get_or earlier p None) (are p (group.IntervalsOf o.workstation) left.0)
    where
      at : (next : Option ℕ) → IsLastIfAny (grouped said) p (group.IntervalsOf o.workstation) next → places_to next < suc p
      at None last = omega arith
      at (Some q) last = let before = last.before in omega (arith, before)

  pub place_within : (p : ℕ) → IsLeftOf (Some p) → p < length said
  place_within p left = let found = said_of_group said p o.workstation left.0 in slice_get_within said p _ found.1

  pub held_by : (p : ℕ) → IsHeldAt p → IsHeld said o
  held_by p h = (p, h.0, h.1, h.2)

  pub never_held : IsLeftOf None → ¬ IsHeld said o
  never_held none h = none h.0 (h.1, h.2, h.3)

-- ---- what is said at a place
says_at : (said : Sayings) (place : ℕ) (r : Option Item) (o : Option (Option Item)) → slice_get said place ≡ o → r ≡ unwrap_or o None → (x : Item) → (r ≡ Some x) ↔ SaysAt said place x
says_at said place r None there is x = (λ h. absurd (cc (is, h)), λ h. absurd (cc (there, h)))
says_at said place r (Some y) there is x = (λ h. there ∙ ap Some (sym is ∙ h), λ h. let same : y ≡ Some x = cc (there, h) in is ∙ same)

pub says_of : (said : Sayings) (place : ℕ) (r : Option Item) → r ≡ unwrap_or (slice_get said place) None → (x : Item) → (r ≡ Some x) ↔ SaysAt said place x
says_of said place r is = says_at said place r (slice_get said place) refl is

pub false_is : {X : Type 0} → ¬ X → IsTrue false ↔ X
false_is none = (λ h. absurd (true≢false (sym h)), λ x. absurd (none x))

pub not_is : {X : Type 0} (b : Bool) → (IsTrue b ↔ X) → IsTrue (not b) ↔ (¬ X)
not_is true x = (λ h. absurd (true≢false (sym h)), λ none. absurd (none (x.0 refl)))
not_is false x = (λ h y. true≢false (sym (x.1 y)), λ none. refl)

module _ (said : Sayings) (place : ℕ) (r : Option Item) (says : (x : Item) → (r ≡ Some x) ↔ SaysAt said place x) where
  pub unopened_is : (found : Option Name) (w : Name) → found ≡ Some w → ((v : Name) → (found ≡ Some v) ↔ ((a : Attr) × (r ≡ Some (item.Workstation v a)) × StartsAreKnown a)) → (b : Bool) → (IsTrue b ↔ Opens said w) → IsTrue (not b) ↔ NeverOpens said place
  unopened_is found w is names b opens = (
    λ h. let one = (names w).0 is in (w, one.0, (says (item.Workstation w one.0)).0 one.1, one.2, (not_is b opens).0 h),
    λ h.
        let there = (names h.0).1 (h.1, (says (item.Workstation h.0 h.1)).1 h.2, h.3) in
        let same : w ≡ h.0 = cc (is, there) in
        (not_is b opens).1 (subst (λ v. ¬ Opens said v) (sym same) h.4),
  )

  pub no_workstation : (found : Option Name) → found ≡ None → ((v : Name) → (found ≡ Some v) ↔ ((a : Attr) × (r ≡ Some (item.Workstation v a)) × StartsAreKnown a)) → ¬ NeverOpens said place
  no_workstation found is names h =
      let there = (names h.0).1 (h.1, (says (item.Workstation h.0 h.1)).1 h.2, h.3) in
      absurd (cc (is, there))

  pub of_operation : (P : OperationItem → Type 0) (found : Option OperationItem) (o : OperationItem) → found ≡ Some o → ((p : OperationItem) → (found ≡ Some p) ↔ (r ≡ Some (item.Operation p))) → (b : Bool) → (IsTrue b ↔ P o)
      → IsTrue b ↔ ((p : OperationItem) × SaysAt said place (item.Operation p) × P p)
  of_operation P found o is names b holds = (
    λ h. (o, (says (item.Operation o)).0 ((names o).0 is), holds.0 h),
    λ h.
        let there = (names h.0).1 ((says (item.Operation h.0)).1 h.1) in
        let same : o ≡ h.0 = cc (is, there) in
        holds.1 (subst P (sym same) h.2),
  )

  pub no_operation : (P : OperationItem → Type 0) (found : Option OperationItem) → found ≡ None → ((p : OperationItem) → (found ≡ Some p) ↔ (r ≡ Some (item.Operation p))) → ¬ ((p : OperationItem) × SaysAt said place (item.Operation p) × P p)
  no_operation P found is names h =
      let there = (names h.0).1 ((says (item.Operation h.0)).1 h.1) in
      absurd (cc (is, there))

-- two things that are so, and a third that is told
pub third_is : {X Y Z : Type 0} {b : Bool} → X → Y → IsTrue b ↔ Z → IsTrue b ↔ (X × Y × Z)
third_is x y z = (λ h. (x, y, z.0 h), λ h. z.1 h.2)

-- ---- deadlines
pub none_is : {X : Type 0} (d : ℕ) → ¬ X → (None ≡ Some d) ↔ X
none_is d none = (λ e. absurd (cc e), λ x. absurd (none x))

given_at_said : (said : Sayings) (i : ℕ) (x : Item) → SaysAt said i x → IsGiven (given said) (key_of x) i
given_at_said [] i x e = absurd (cc e)
given_at_said (o ∷ said) zero x e = let same : o ≡ Some x = cc e in rw same refl
given_at_said (o ∷ said) (suc i) x e = given_at_said said i x e

-- the occurrence that the first place of its key says
same_occurrence : (said : Sayings) (i : ℕ) (c : OccKey) (priority d : ℕ) (x : OccKey) → IsGiven (given said) (key.Occurrence x) i → SaysAt said i (item.Occurrence c priority d) → c ≡ x
same_occurrence said i c priority d x at says =
    let there : IsGiven (given said) (key.Occurrence c) i = given_at_said said i (item.Occurrence c priority d) says in
    cc (at, there)

first_one : (said : Sayings) (k : RowKey) (a b : ℕ) → IsFirst (given said) k a → IsFirst (given said) k b → a ≡ b
first_one said k a b one two = elim (cases_lt a b) [
  | inl less ↦ absurd (two.none_before a less one.here)
  | inr le ↦ elim (cases_lt b a) [ inl less ↦ absurd (one.none_before b less two.here) | inr more ↦ omega (arith, le, more) ]
]

module _ (said : Sayings) (o : OperationItem) (index : BTreeMap RowKey ℕ) (is : IsIndex (given said) index) where
  pub no_deadline : place_in index (key.Occurrence o.key.occurrence) ≡ None → (d : ℕ) → ¬ IsDeadlineOfOccurrence said o d
  no_deadline none d h = nowhere_by said index is (key.Occurrence o.key.occurrence) none h.0 h.2.here

  pub deadline_is : (first : ℕ) → place_in index (key.Occurrence o.key.occurrence) ≡ Some first → (r : Option Item) → ((x : Item) → (r ≡ Some x) ↔ SaysAt said first x) → (found : Option ℕ)
      → ((d : ℕ) → (found ≡ Some d) ↔ ((c : OccKey) × (priority : ℕ) × (r ≡ Some (item.Occurrence c priority d)))) → (d : ℕ) → (found ≡ Some d) ↔ IsDeadlineOfOccurrence said o d
  deadline_is first there r says found names d =
      let the_first = first_by said index is (key.Occurrence o.key.occurrence) first there in (
        λ h.
            let one = (names d).0 h in
            let at = (says (item.Occurrence one.0 one.1 d)).0 one.2 in
            let same = same_occurrence said first one.0 one.1 d o.key.occurrence the_first.here at in
            (first, one.1, the_first, subst (λ c. SaysAt said first (item.Occurrence c one.1 d)) same at),
        λ h.
            let same = first_one said (key.Occurrence o.key.occurrence) h.0 first h.2 the_first in
            let at = subst (λ i. SaysAt said i (item.Occurrence o.key.occurrence h.1 d)) same h.3 in
            (names d).1 (o.key.occurrence, h.1, (says (item.Occurrence o.key.occurrence h.1 d)).1 at),
      )

-- ---- workstations on which starts are known
-- the workstation that the first place of its key says
same_workstation : (said : Sayings) (i : ℕ) (v : Name) (a : Attr) (w : Name) → IsGiven (given said) (key.Workstation w) i → SaysAt said i (item.Workstation v a) → v ≡ w
same_workstation said i v a w at says =
    let there : IsGiven (given said) (key.Workstation v) i = given_at_said said i (item.Workstation v a) says in
    cc (at, there)

module _ (said : Sayings) (w : Name) (index : BTreeMap RowKey ℕ) (is : IsIndex (given said) index) where
  pub starts_not_known : place_in index (key.Workstation w) ≡ None → ¬ StartsAreKnownOn said w
  starts_not_known none h = nowhere_by said index is (key.Workstation w) none h.0 h.2.here

  pub starts_known_is : (first : ℕ) → place_in index (key.Workstation w) ≡ Some first → (r : Option Item) → ((x : Item) → (r ≡ Some x) ↔ SaysAt said first x) → (found : Option Name)
      → ((v : Name) → (found ≡ Some v) ↔ ((a : Attr) × (r ≡ Some (item.Workstation v a)) × StartsAreKnown a)) → IsTrue (is_some found) ↔ StartsAreKnownOn said w
  starts_known_is first there r says found names = (to found refl, back)
    where
      the_first : IsFirst (given said) (key.Workstation w) first
      the_first = first_by said index is (key.Workstation w) first there

      to : (o : Option Name) → found ≡ o → IsTrue (is_some o) → StartsAreKnownOn said w
      to None e h = absurd (true≢false (sym h))
      to (Some v) e h =
          let one = (names v).0 e in
          let at = (says (item.Workstation v one.0)).0 one.1 in
          let same = same_workstation said first v one.0 w the_first.here at in
          (first, one.0, the_first, subst (λ n. SaysAt said first (item.Workstation n one.0)) same at, one.2)

      back : StartsAreKnownOn said w → IsTrue (is_some found)
      back h =
          let same = first_one said (key.Workstation w) h.0 first h.2 the_first in
          let at = subst (λ i. SaysAt said i (item.Workstation w h.1)) same h.3 in
          ap is_some ((names w).1 (h.1, (says (item.Workstation w h.1)).1 at, h.4))

pub own_deadline : (said : Sayings) (o : OperationItem) (own : ℕ) → o.deadline ≡ Some own → (d : ℕ) → (Some own ≡ Some d) ↔ IsDeadlineOf said o d
own_deadline said o own is d = subst (λ (z : Option ℕ). (Some own ≡ Some d) ↔ MatchOption z (IsDeadlineOfOccurrence said o d) (λ x. x ≡ d)) (sym is) (λ e. cc e, λ e. ap Some e)

pub other_deadline : (said : Sayings) (o : OperationItem) → o.deadline ≡ None → (found : Option ℕ) → ((d : ℕ) → (found ≡ Some d) ↔ IsDeadlineOfOccurrence said o d) → (d : ℕ) → (found ≡ Some d) ↔ IsDeadlineOf said o d
other_deadline said o is found names d = subst (λ (z : Option ℕ). (found ≡ Some d) ↔ MatchOption z (IsDeadlineOfOccurrence said o d) (λ x. x ≡ d)) (sym is) (names d)

pub never_late : (said : Sayings) (o : OperationItem) → ((d : ℕ) → (None ≡ Some d) ↔ IsDeadlineOf said o d) → ¬ IsLate said o
never_late said o names h = absurd (cc ((names h.0).1 h.1))

module _ (said : Sayings) (o : OperationItem) (deadline : ℕ) (names : (d : ℕ) → (Some deadline ≡ Some d) ↔ IsDeadlineOf said o d) where
  pub late_at_start : deadline < o.not_before + o.duration → IsTrue true ↔ IsLate said o
  late_at_start lt = (λ _. (deadline, (names deadline).0 refl, inl lt), λ _. refl)

  pub late_at_arrival : ¬ (deadline < o.not_before + o.duration) → (b : Bool) → IsTrue b ↔ (deadline < o.key.occurrence.arrival + o.duration) → IsTrue b ↔ IsLate said o
  late_at_arrival in_time b late = (
    λ h. (deadline, (names deadline).0 refl, inr (late.0 h)),
    λ h.
        let same : deadline ≡ h.0 = let e = (names h.0).1 h.1 in cc e in
        elim h.2 [
          | inl start ↦ absurd (in_time (subst (λ d. d < o.not_before + o.duration) (sym same) start))
          | inr arrival ↦ late.1 (subst (λ d. d < o.key.occurrence.arrival + o.duration) (sym same) arrival)
        ],
  )

-- ---- all places
-- what one kind of warning tells of a place
of_kind : (said : Sayings) (place : ℕ) (k : Warning) (w : RecordWarning) (b : Bool) → (IsTrue b ↔ IsWarningAt said place k) → ((w.place ≡ place) × (w.warning ≡ k) × IsTrue b) → (w.place ≡ place) × IsWarningAt said place w.warning
of_kind said place k w b is h = (h.0, subst (IsWarningAt said place) (sym h.1) (is.0 h.2))

pub of_place : {O A B C : Type 0} {opened beyond late : Bool} (said : Sayings) (place : ℕ) (w : RecordWarning)
    → A ↔ (O ⊎ ((w.place ≡ place) × (w.warning ≡ warning.NeverOpens) × IsTrue opened)) → IsTrue opened ↔ NeverOpens said place
    → B ↔ (A ⊎ ((w.place ≡ place) × (w.warning ≡ warning.BeyondIntervals) × IsTrue beyond)) → IsTrue beyond ↔ IsBeyondIntervals said place
    → C ↔ (B ⊎ ((w.place ≡ place) × (w.warning ≡ warning.TooLate) × IsTrue late)) → IsTrue late ↔ IsTooLate said place → C ↔ (O ⊎ ((w.place ≡ place) × IsWarningAt said place w.warning))
of_place {O} {A} {B} {C} {opened} {beyond} {late} said place w a is_opened b is_beyond c is_late = (
  λ h. elim (c.0 h) [
    | inl second ↦ elim (b.0 second) [
      | inl first ↦ elim (a.0 first) [ inl o ↦ inl o | inr x ↦ inr (of_kind said place warning.NeverOpens w opened is_opened x) ]
      | inr y ↦ inr (of_kind said place warning.BeyondIntervals w beyond is_beyond y)
    ]
    | inr z ↦ inr (of_kind said place warning.TooLate w late is_late z)
  ],
  λ h. elim h [ inl o ↦ c.1 (inl (b.1 (inl (a.1 (inl o))))) | inr x ↦ back w.warning refl x.0 x.1 ],
)
  where
    back : (k : Warning) → w.warning ≡ k → w.place ≡ place → IsWarningAt said place w.warning → C
    back warning.NeverOpens same at h = c.1 (inl (b.1 (inl (a.1 (inr (at, same, is_opened.1 (subst (IsWarningAt said place) same h)))))))
    back warning.BeyondIntervals same at h = c.1 (inl (b.1 (inr (at, same, is_beyond.1 (subst (IsWarningAt said place) same h)))))
    back warning.TooLate same at h = c.1 (inr (at, same, is_late.1 (subst (IsWarningAt said place) same h)))

pub more_places : (said : Sayings) (n : ℕ) (old new : List RecordWarning) → AreWarningsBelow said n old → ((w : RecordWarning) → Contains new w ↔ (Contains old w ⊎ ((w.place ≡ n) × IsWarningAt said n w.warning))) → AreWarningsBelow said (n + 1) new
more_places said n old new below told w = (
  λ h. elim ((told w).0 h) [
    | inl before ↦ let is = (below w).0 before in let lt = is.0 in (omega (arith, lt), is.1)
    | inr here ↦ let at = here.0 in (omega (arith, at), subst (λ i. IsWarningAt said i w.warning) (sym at) here.1)
  ],
  λ h. elim (cases_lt w.place n) [
    | inl less ↦ (told w).1 (inl ((below w).1 (less, h.1)))
    | inr le ↦ let lt = h.0 in let at : w.place ≡ n = omega (arith, lt, le) in (told w).1 (inr (at, subst (λ i. IsWarningAt said i w.warning) at h.1))
  ],
)

-- a warning is of a record that says something
within : (said : Sayings) (place : ℕ) (k : Warning) → IsWarningAt said place k → place < length said
within said place warning.NeverOpens h = slice_get_within said place _ h.2
within said place warning.BeyondIntervals h = slice_get_within said place _ h.1
within said place warning.TooLate h = slice_get_within said place _ h.1

pub all_warned : (records : List Fields) (said : Sayings) → AreSayings records said → (same : Sayings) → same ≡ said → (found : List RecordWarning) → AreWarningsBelow same (length same) found
    → (w : RecordWarning) → Contains found w ↔ IsWarning records w.place w.warning
all_warned records said are same is found below w = (
  λ h. (said, are, subst (λ z. IsWarningAt z w.place w.warning) is ((below w).0 h).1),
  λ h.
      let one : h.0 ≡ same = one_saying records h.0 said h.1 are ∙ sym is in
      let at = subst (λ z. IsWarningAt z w.place w.warning) one h.2 in
      (below w).1 (within same w.place w.warning at, at),
)
