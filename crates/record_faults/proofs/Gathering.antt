-- Faults that are told one after another.
use Rattle.std.proofs.Common.{◌≡◌, ◌↔◌, ◌⊎◌, inl, inr, refl, sym, ap, subst, ◌∙◌, arith, ℕ, zero, suc, ◌+◌, ◌<◌, ◌≤◌, List, [], ◌∷◌, ◌++◌, length, map, take, get_or, slice_get, Contains, Option, Some, None, Result, Ok, Err}
use Rattle.std.specs.List.{AllZip}
use Rattle.std.specs.Prelude.{OnOk}
use Rattle.std.proofs.lemmas.Bool.{cases_lt}
use Rattle.std.proofs.lemmas.Option.{none-some, same_Some, slice_get-get_or, slice_get_within}
use Rattle.std.proofs.lemmas.List.Elements.{All-nil, All-contains, Contains-append_left, Contains-append_right, Contains-append_cases}
use Rattle.plan_basics.proofs.Members.{all_by_members, contains_head, contains_later, contains_cases, contains_none}
use Rattle.plan_drafts.proofs.Lists.{Differ, differ_from_pairs, pairs_from_differ}
use Rattle.record_faults.specs.declared.faults.Fault.{Fault}
use Rattle.record_faults.specs.declared.faults.RecordFault.{RecordFault}
use Rattle.plan_items.specs.Items.{Fields}
use Rattle.plan_drafts.specs.declared.RowKey.{RowKey}
use Rattle.record_faults.specs.declared.faults.Fault.TheVariants as fault
use Rattle.record_faults.specs.declared.names.Naming.{Naming}
use Rattle.record_faults.specs.declared.names.Naming.TheVariants.{First, Second}
use Rattle.record_faults.specs.declared.groups.Group.{Group}
use Rattle.record_faults.specs.declared.groups.Group.TheVariants as group
use Rattle.record_faults.specs.Groups.{grouped}
use Rattle.record_faults.specs.Sayings.{Sayings, IsGiven, given}
use Rattle.record_faults.proofs.Overlapping.{no_second}
use Rattle.record_faults.specs.Faults.{IsAnswer, IsSilent, IsRepetition, interval_said, IsOverlap, IsUndefined, IsUnused, IsCrowd, need_said, IsBeyondStock, IsMissing, IsOwnFault, IsFaultAt, StayOnce, AreInOrderTo, AreFaultsBelow, AreFaults}

-- what is read of a list within it
pub at_read : {X : Type 0} (xs : List X) (i : ℕ) (d v : X) → i < length xs → get_or xs i d ≡ v → slice_get xs i ≡ Some v
at_read xs i d v lt e = slice_get-get_or xs i d lt ∙ ap Some e

-- one more of each of two lists that go side by side
zip_next : {A B C : Type 0} (R : C → B → Type 0) (f : A → C) (xs : List A) (ys : List B) (i : ℕ) (x : A) (y : B) → i < length xs → x ≡ get_or xs i x → AllZip R (map f (take i xs)) ys → R (f x) y → AllZip R (map f (take (suc i) xs)) (ys ++ y ∷ [])
zip_next R f [] ys i x y lt is all one = absurd (omega arith)
zip_next R f (a ∷ xs) [] zero x y lt is all one = (subst (λ z. R (f z) y) is one, tt)
zip_next R f (a ∷ xs) (b ∷ ys) zero x y lt is all one = absurd all
zip_next R f (a ∷ xs) [] (suc i) x y lt is all one = absurd all
zip_next R f (a ∷ xs) (b ∷ ys) (suc i) x y lt is all one = (all.0, zip_next R f xs ys i x y (omega arith) is all.1 one)

pub zip_more : {A B C : Type 0} (R : C → B → Type 0) (f : A → C) (xs : List A) (ys : List B) (i : ℕ) (x : A) (y : B) → i < length xs → x ≡ get_or xs i x → AllZip R (map f (take i xs)) ys → R (f x) y → AllZip R (map f (take (i + 1) xs)) (ys ++ y ∷ [])
zip_more R f xs ys i x y lt is all one = let next : suc i ≡ i + 1 = omega arith in subst (λ n. AllZip R (map f (take n xs)) (ys ++ y ∷ [])) next (zip_next R f xs ys i x y lt is all one)

-- ---- one fault more
abbrev Told : List RecordFault → List RecordFault → ℕ → Option Fault → Type 0
Told old new place found = (f : RecordFault) → Contains new f ↔ (Contains old f ⊎ ((f.place ≡ place) × (found ≡ Some f.fault)))

pub told_none : (faults : List RecordFault) (place : ℕ) → Told faults faults place None
told_none faults place f = (λ has. inl has, elim [ inl has ↦ has | inr h ↦ absurd (none-some f.fault h.1) ])

pub told_one : (faults : List RecordFault) (place : ℕ) (found : Fault) (r : RecordFault) → r.place ≡ place → r.fault ≡ found → Told faults (faults ++ r ∷ []) place (Some found)
told_one faults place found r at is f = (to, back)
  where
    to : Contains (faults ++ r ∷ []) f → Contains faults f ⊎ ((f.place ≡ place) × (Some found ≡ Some f.fault))
    to has = elim (Contains-append_cases faults (r ∷ []) f has) [
      | inl before ↦ inl before
      | inr last ↦ elim (contains_cases r [] f last) [
        | inl same ↦ inr (sym (ap (λ (z : RecordFault). z.place) same) ∙ at, ap Some (sym is ∙ ap (λ (z : RecordFault). z.fault) same))
        | inr none ↦ absurd (contains_none f none)
      ]
    ]

    back : Contains faults f ⊎ ((f.place ≡ place) × (Some found ≡ Some f.fault)) → Contains (faults ++ r ∷ []) f
    back (inl before) = Contains-append_left faults (r ∷ []) f before
    back (inr h) =
        let places : r.place ≡ f.place = at ∙ sym h.0 in
        let kinds : r.fault ≡ f.fault = is ∙ same_Some found f.fault h.1 in
        let same : r ≡ f = λ i. record { place = places i; fault = kinds i } in
        Contains-append_right faults (r ∷ []) f (subst (Contains (r ∷ [])) same (contains_head r []))

-- in order, with one at the end that is after none
differ_more : {X : Type 0} (R : X → X → Type 0) (xs : List X) (x : X) → Differ R xs → ((a : X) → Contains xs a → R a x) → Differ R (xs ++ x ∷ [])
differ_more R [] x h before = (All-nil (R x), tt)
differ_more R (a ∷ xs) x h before = (
  all_by_members (R a) (xs ++ x ∷ []) (λ b has. elim (Contains-append_cases xs (x ∷ []) b has) [
    | inl in_front ↦ All-contains (R a) xs b h.0 in_front
    | inr last ↦ elim (contains_cases x [] b last) [ inl same ↦ subst (R a) same (before a (contains_head a xs)) | inr none ↦ absurd (contains_none b none) ]
  ]),
  differ_more R xs x h.1 (λ b has. before b (contains_later a xs b has)),
)

abbrev Before : RecordFault → RecordFault → Type 0
Before a b = a.place ≤ b.place

pub in_order_more : (place : ℕ) (faults : List RecordFault) (r : RecordFault) → r.place ≡ place → AreInOrderTo place faults → AreInOrderTo place (faults ++ r ∷ [])
in_order_more place faults r at is = record {
  in_order = pairs_from_differ Before (faults ++ r ∷ []) (differ_more Before faults r (differ_from_pairs Before faults is.in_order) (λ a has. let le = All-contains (λ (a : RecordFault). a.place ≤ place) faults a is.within has in omega (arith, le, at)));
  within = all_by_members (λ (a : RecordFault). a.place ≤ place) (faults ++ r ∷ []) (λ a has. elim (Contains-append_cases faults (r ∷ []) a has) [
    | inl before ↦ All-contains (λ (a : RecordFault). a.place ≤ place) faults a is.within before
    | inr last ↦ elim (contains_cases r [] a last) [
      | inl same ↦ let places = ap (λ (z : RecordFault). z.place) same in omega (arith, places, at)
      | inr none ↦ absurd (contains_none a none)
    ]
  ]);
}

-- ---- the faults of one place
-- what is told is the one that has the property
pub told_is : (P : Fault → Type 0) (found : Option Fault) → IsAnswer P found → (g : Fault) → (found ≡ Some g) ↔ P g
told_is P None answer g = (λ e. absurd (none-some g e), λ h. absurd (answer g h))
told_is P (Some f) answer g = (λ e. subst P (same_Some f g e) answer.0, λ h. ap Some (sym (answer.1 g h)))

-- what two tell one after another
pub more : {V0 V1 V2 P A B : Type 0} → (V1 ↔ (V0 ⊎ (P × A))) → (V2 ↔ (V1 ⊎ (P × B))) → V2 ↔ (V0 ⊎ (P × (A ⊎ B)))
more a b = (
  λ v. elim (b.0 v) [ inr h ↦ inr (h.0, inr h.1) | inl before ↦ elim (a.0 before) [ inr h ↦ inr (h.0, inl h.1) | inl first ↦ inl first ] ],
  elim [ inl first ↦ b.1 (inl (a.1 (inl first))) | inr h ↦ elim h.1 [ inl x ↦ b.1 (inl (a.1 (inr (h.0, x)))) | inr y ↦ b.1 (inr (h.0, y)) ] ],
)

-- what is told of a fault, by its property
pub by_property : {N V Q X : Type 0} {R : Type 0} → (N ↔ (V ⊎ (Q × X))) → (X ↔ R) → N ↔ (V ⊎ (Q × R))
by_property h x = (
  λ n. elim (h.0 n) [ inl v ↦ inl v | inr p ↦ inr (p.0, x.0 p.1) ],
  elim [ inl v ↦ h.1 (inl v) | inr p ↦ h.1 (inr (p.0, x.1 p.1)) ],
)

-- what two and then one tell
pub more_of_two : {V0 V1 V2 P A B C : Type 0} → (V1 ↔ (V0 ⊎ (P × (A ⊎ B)))) → (V2 ↔ (V1 ⊎ (P × C))) → V2 ↔ (V0 ⊎ (P × (A ⊎ B ⊎ C)))
more_of_two a b =
    by_property (more a b) (elim [ inl two ↦ elim two [ inl x ↦ inl x | inr y ↦ inr (inl y) ] | inr z ↦ inr (inr z) ], elim [ inl x ↦ inl (inl x) | inr rest ↦ elim rest [ inl y ↦ inl (inr y) | inr z ↦ inr z ] ])

-- ---- all places
pub no_place : (records : List Fields) (said : Sayings) → AreFaultsBelow records said 0 []
no_place records said = record {
  exact = λ f. (λ has. absurd (contains_none f has), λ h. let lt = h.0 in absurd (omega (arith, lt)));
  in_order = λ i j d lt within. absurd (omega arith);
  once = λ i j d lt within. absurd (omega arith);
}

module _ (records : List Fields) (said : Sayings) (n : ℕ) (old new : List RecordFault) (are : AreFaultsBelow records said n old) where
  pub in_order_to : AreInOrderTo n old
  in_order_to = record { in_order = are.in_order; within = all_by_members (λ (a : RecordFault). a.place ≤ n) old (λ a has. let lt = ((are.exact a).0 has).0 in omega (arith, lt)) }

  pub place_more : ((f : RecordFault) → Contains new f ↔ (Contains old f ⊎ ((f.place ≡ n) × IsOwnFault records said n f.fault))) → (AreInOrderTo n old → AreInOrderTo n new) → StayOnce (λ (f : RecordFault). f.place ≡ n) old new → AreFaultsBelow records said (n + 1) new
  place_more told ordered stay = record {
    exact = λ f. (
      λ has. elim ((told f).0 has) [
        | inl before ↦ let h = (are.exact f).0 before in let lt = h.0 in (omega (arith, lt), h.1)
        | inr here ↦ let at = here.0 in (omega (arith, at), subst (λ m. IsOwnFault records said m f.fault) (sym at) here.1)
      ],
      λ h. let lt = h.0 in elim (cases_lt f.place n) [
        | inl less ↦ (told f).1 (inl ((are.exact f).1 (less, h.1)))
        | inr more ↦ let at : f.place ≡ n = omega (arith, lt, more) in (told f).1 (inr (at, subst (λ m. IsOwnFault records said m f.fault) at h.1))
      ],
    );
    in_order = (ordered in_order_to).in_order;
    once = stay (λ f at has. let lt = ((are.exact f).0 has).0 in omega (arith, lt, at)) are.once;
  }

-- ---- the faults of records are at their places
given_within : (said : Sayings) (k : RowKey) (place : ℕ) → IsGiven (given said) k place → place < length said
given_within [] k place e = cc
given_within (s ∷ said) k zero e = omega arith
given_within (s ∷ said) k (suc place) e = let lt = given_within said k place e in omega (arith, lt)

grouped_within : (said : Sayings) (g : Group) (place : ℕ) → IsGiven (grouped said) g place → place < length said
grouped_within [] g place e = cc
grouped_within (s ∷ said) g zero e = omega arith
grouped_within (s ∷ said) g (suc place) e = let lt = grouped_within said g place e in omega (arith, lt)

-- past the end of a list there is nothing
past : (said : Sayings) (i : ℕ) → length said ≤ i → get_or said i None ≡ None
past [] i le = refl
past (x ∷ said) zero le = absurd (omega arith)
past (x ∷ said) (suc i) le = past said i (omega arith)

silent_within : (records : List Fields) (said : Sayings) (place : ℕ) (f : Fault) → IsSilent records said place f → place < length said
silent_within records said place (fault.Shape s) h = slice_get_within said place None h.2
silent_within records said place _ h = absurd h

repetition_within : (said : Sayings) (place : ℕ) (f : Fault) → IsRepetition said place f → place < length said
repetition_within said place (fault.Repeated k first) h = given_within said k place h.0
repetition_within said place _ h = absurd h

overlap_within : (said : Sayings) (place : ℕ) (f : Fault) → IsOverlap said place f → place < length said
overlap_within said place (fault.Overlaps other) h = elim (cases_lt place (length said)) [
  | inl lt ↦ lt
  | inr le ↦ absurd (no_second (get_or said other None) (get_or said place None) (ap interval_said (past said place le)) h.1)
]
overlap_within said place _ h = absurd h

undefined_within : (naming : Naming) (said : Sayings) (place : ℕ) (f : Fault) → IsUndefined naming said place f → place < length said
undefined_within naming said place (fault.Undefined k) h = slice_get_within said place (Some h.0) h.1
undefined_within naming said place _ h = absurd h

unused_within : (said : Sayings) (place : ℕ) (f : Fault) → IsUnused said place f → place < length said
unused_within said place fault.NoOperation h = given_within said _ place h.1
unused_within said place _ h = absurd h

crowd_within : (said : Sayings) (place : ℕ) (f : Fault) → IsCrowd said place f → place < length said
crowd_within said place (fault.TooMany g count) h = grouped_within said g place h.0.here
crowd_within said place _ h = absurd h

beyond_within : (said : Sayings) (place : ℕ) (f : Fault) → IsBeyondStock said place f → place < length said
beyond_within said place (fault.BeyondStock other) h = elim (cases_lt place (length said)) [
  | inl lt ↦ lt
  | inr le ↦ absurd (none-some h.0 (sym (ap need_said (past said place le)) ∙ h.2))
]
beyond_within said place _ h = absurd h

pub own_within : (records : List Fields) (said : Sayings) (place : ℕ) (f : Fault) → IsOwnFault records said place f → place < length said
own_within records said place f (inl h) = silent_within records said place f h
own_within records said place f (inr (inl h)) = repetition_within said place f h
own_within records said place f (inr (inr (inl h))) = overlap_within said place f h
own_within records said place f (inr (inr (inr (inl h)))) = undefined_within First said place f h
own_within records said place f (inr (inr (inr (inr (inl h))))) = undefined_within Second said place f h
own_within records said place f (inr (inr (inr (inr (inr (inl h)))))) = unused_within said place f h
own_within records said place f (inr (inr (inr (inr (inr (inr (inl h))))))) = crowd_within said place f h
own_within records said place f (inr (inr (inr (inr (inr (inr (inr h))))))) = beyond_within said place f h

-- ---- after all places
missing_at : (g : Group) (said : Sayings) (place : ℕ) (f : Fault) → IsMissing g said place f → place ≡ length said
missing_at g said place (fault.Missing k) h = h.1
missing_at g said place _ h = absurd h

-- what is told after all places, by its property
pub missing_told : {N V : Type 0} (g : Group) (said : Sayings) (place : ℕ) (f : Fault) → (N ↔ (V ⊎ ((place ≡ length said) × IsMissing g said (length said) f))) → N ↔ (V ⊎ IsMissing g said place f)
missing_told g said place f h = (
  λ n. elim (h.0 n) [ inl v ↦ inl v | inr m ↦ inr (subst (λ k. IsMissing g said k f) (sym m.0) m.1) ],
  elim [ inl v ↦ h.1 (inl v) | inr m ↦ let at = missing_at g said place f m in h.1 (inr (at, subst (λ k. IsMissing g said k f) at m)) ],
)

-- what is missing is of one group
one_missing : (said : Sayings) (place other : ℕ) (f : Fault) → IsMissing group.Workstations said place f → IsMissing group.Occurrences said other f → ⊥
one_missing said place other (fault.Missing k) h m = let same : group.Workstations ≡ group.Occurrences = sym h.0 ∙ m.0 in cc
one_missing said place other _ h m = h

module _
    (records : List Fields) (said : Sayings) (below more all : List RecordFault) (are : AreFaultsBelow records said (length said) below)
    (first : (f : RecordFault) → Contains more f ↔ (Contains below f ⊎ IsMissing group.Workstations said f.place f.fault)) (second : (f : RecordFault) → Contains all f ↔ (Contains more f ⊎ IsMissing group.Occurrences said f.place f.fault)) where
  all_exact : (f : RecordFault) → Contains all f ↔ IsFaultAt records said f.place f.fault
  all_exact f = (
    λ has. elim ((second f).0 has) [
      | inr m ↦ inr (inr m)
      | inl in_more ↦ elim ((first f).0 in_more) [ inr m ↦ inr (inl m) | inl in_below ↦ inl ((are.exact f).0 in_below).1 ]
    ],
    elim [
      | inl own ↦ (second f).1 (inl ((first f).1 (inl ((are.exact f).1 (own_within records said f.place f.fault own, own)))))
      | inr m ↦ elim m [ inl w ↦ (second f).1 (inl ((first f).1 (inr w))) | inr o ↦ (second f).1 (inr o) ]
    ],
  )

  not_below : (g : Group) (f : RecordFault) → IsMissing g said f.place f.fault → ¬ Contains below f
  not_below g f m has = let at = missing_at g said f.place f.fault m in let lt = ((are.exact f).0 has).0 in omega (arith, at, lt)

  not_before : (f : RecordFault) → IsMissing group.Occurrences said f.place f.fault → ¬ Contains more f
  not_before f m has = elim ((first f).0 has) [ inl in_below ↦ not_below group.Occurrences f m in_below | inr w ↦ one_missing said f.place f.place f.fault w m ]

  pub all_told :
      (AreInOrderTo (length said) below → AreInOrderTo (length said) more) → (AreInOrderTo (length said) more → AreInOrderTo (length said) all) →
      StayOnce (λ (f : RecordFault). IsMissing group.Workstations said f.place f.fault) below more → StayOnce (λ (f : RecordFault). IsMissing group.Occurrences said f.place f.fault) more all → AreFaults records said all
  all_told first_ordered second_ordered first_once second_once = record {
    exact = all_exact;
    in_order = (second_ordered (first_ordered (in_order_to records said (length said) below below are))).in_order;
    once = second_once not_before (first_once (not_below group.Workstations) are.once);
  }

-- what is told is that there is none of the group
pub tell_after :
    {E : Type 0} (g : Group) (items said : Sayings) → said ≡ items → (old new : List RecordFault) (found : Option Fault) → IsAnswer (IsMissing g said (length said)) found → (r : Result (Unit {0}) E) →
    OnOk r ((f : RecordFault) → Contains new f ↔ (Contains old f ⊎ ((f.place ≡ length said) × (found ≡ Some f.fault)))) →
    OnOk r ((f : RecordFault) → Contains new f ↔ (Contains old f ⊎ IsMissing g items f.place f.fault))
tell_after g items said same old new found answer (Ok u) told = λ f. missing_told g items f.place f.fault (subst (λ z. Contains new f ↔ (Contains old f ⊎ ((f.place ≡ length z) × IsMissing g z (length z) f.fault))) same (by_property (told f) (told_is (IsMissing g said (length said)) found answer f.fault)))
tell_after g items said same old new found answer (Err e) told = told

-- and it is told once
pub once_after :
    {E : Type 0} (g : Group) (items said : Sayings) → said ≡ items → (old new : List RecordFault) (found : Option Fault) → IsAnswer (IsMissing g said (length said)) found → (r : Result (Unit {0}) E) →
    OnOk r (StayOnce (λ (f : RecordFault). (f.place ≡ length said) × (found ≡ Some f.fault)) old new) → OnOk r (StayOnce (λ (f : RecordFault). IsMissing g items f.place f.fault) old new)
once_after g items said same old new found answer (Err e) stay = tt
once_after g items said same old new found answer (Ok u) stay = λ none once.
    stay (λ f h. none f (subst (λ z. IsMissing g z f.place f.fault) same (subst (λ n. IsMissing g said n f.fault) (sym h.0) ((told_is (IsMissing g said (length said)) found answer f.fault).0 h.1)))) once
