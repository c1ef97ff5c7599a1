-- Faults that are told once.
use Rattle.std.proofs.Common.{◌≡◌, ◌≢◌, ◌↔◌, ◌⊎◌, inl, inr, refl, sym, subst, ◌∙◌, arith, ℕ, ◌+◌, ◌<◌, List, [], ◌∷◌, ◌++◌, slice_get, Contains, Option, Some}
use Rattle.std.specs.List.{AllPairs}
use Rattle.std.proofs.lemmas.Option.{same_Some}
use Rattle.std.proofs.lemmas.List.Elements.{Contains-get_or}
use Rattle.std.proofs.lemmas.List.Quantifiers.{all_pairs_push}
use Rattle.plan_items.specs.declared.Item.{Item}
use Rattle.plan_items.specs.declared.Item.TheVariants as item
use Rattle.plan_items.specs.Items.{Fields}
use Rattle.plan_drafts.specs.declared.RowKey.{RowKey}
use Rattle.record_faults.specs.declared.faults.Fault.{Fault}
use Rattle.record_faults.specs.declared.faults.Fault.TheVariants as fault
use Rattle.record_faults.specs.declared.faults.RecordFault.{RecordFault}
use Rattle.record_faults.specs.declared.names.Naming.TheVariants.{First, Second}
use Rattle.record_faults.specs.Sayings.{Sayings}
use Rattle.record_faults.specs.Faults.{name_of, IsToItself, IsAnswer, IsSilent, IsRepetition, IsOverlap, IsUndefined, IsUnused, IsCrowd, IsBeyondStock, StayOnce}
use Rattle.record_faults.proofs.Gathering.{by_property, told_is}

module _ {X : Type 0} where
  -- none more
  pub none_more_once : (P : X → Type 0) (xs : List X) → StayOnce P xs xs
  none_more_once P xs = λ new once. once

  -- one more
  pub one_more_once : (P : X → Type 0) (xs : List X) (x : X) → P x → StayOnce P xs (xs ++ x ∷ [])
  one_more_once P xs x is = λ new once. all_pairs_push (λ a b. a ≢ b) xs x once (λ k d lt same. new x is (subst (Contains xs) same (Contains-get_or xs k d lt)))

  -- one alone
  pub alone_in_pairs : (R : X → X → Type 0) (x : X) → AllPairs R (x ∷ [])
  alone_in_pairs R x i j d lt within = absurd (omega (arith, lt, within))

-- ---- what no record defines
-- a thing is named twice by a dependency from an operation to itself alone
to_itself : (x : Item) (k : RowKey) → name_of First x ≡ Some k → name_of Second x ≡ Some k → IsToItself (Some x)
to_itself (item.Dependency p s) k first second = let same : s ≡ p = cc in (p, λ i. Some (item.Dependency p (same i)))
to_itself _ k first second = absurd (cc)

module _ (said : Sayings) (place : ℕ) (o : Option Item) (at : slice_get said place ≡ Some o) where
  one_item_at : (x : Item) → slice_get said place ≡ Some (Some x) → o ≡ Some x
  one_item_at x e = same_Some o (Some x) (sym at ∙ e)

  second_is_first : IsToItself o → (f : Fault) → IsUndefined Second said place f → IsUndefined First said place f
  second_is_first itself (fault.Undefined k) h =
      let same : item.Dependency itself.0 itself.0 ≡ h.0 = same_Some (item.Dependency itself.0 itself.0) h.0 (sym itself.1 ∙ one_item_at h.0 h.1) in
      (h.0, h.1, subst (λ z. name_of First z ≡ Some k) same (subst (λ z. name_of Second z ≡ Some k) (sym same) h.2), h.3)
  second_is_first itself _ h = absurd h

  both_named : (f : Fault) → IsUndefined First said place f → IsUndefined Second said place f → IsToItself o
  both_named (fault.Undefined k) h g =
      let first = one_item_at h.0 h.1 in
      let same : g.0 ≡ h.0 = same_Some g.0 h.0 (sym (one_item_at g.0 g.1) ∙ first) in
      subst IsToItself (sym first) (to_itself h.0 k h.2 (subst (λ z. name_of Second z ≡ Some k) same g.2))
  both_named _ h g = absurd h

  -- of a dependency to itself the first name is told for both
  pub itself_told : {N V Q : Type 0} (f : Fault) → IsToItself o → (N ↔ (V ⊎ (Q × IsUndefined First said place f))) → N ↔ (V ⊎ (Q × (IsUndefined First said place f ⊎ IsUndefined Second said place f)))
  itself_told f itself told = by_property told (λ first. inl first, elim [ inl first ↦ first | inr second ↦ second_is_first itself f second ])

  module _ (found : Option Fault) (answer : IsAnswer (IsUndefined First said place) found) (old new : List RecordFault) (stay : StayOnce (λ (f : RecordFault). (f.place ≡ place) × (found ≡ Some f.fault)) old new) where
    pub first_once : StayOnce (λ (f : RecordFault). (f.place ≡ place) × (IsUndefined First said place f.fault ⊎ IsUndefined Second said place f.fault)) old new
    first_once none once = stay (λ f h. none f (h.0, inl ((told_is (IsUndefined First said place) found answer f.fault).0 h.1))) once

    -- where it isn't one to itself no second name was told as the first
    pub both_once :
        ((f : RecordFault) → Contains new f ↔ (Contains old f ⊎ ((f.place ≡ place) × (found ≡ Some f.fault)))) → ¬ IsToItself o → (other : Option Fault) → IsAnswer (IsUndefined Second said place) other → (all : List RecordFault) → StayOnce (λ (f : RecordFault). (f.place ≡ place) × (other ≡ Some f.fault)) new all →
        StayOnce (λ (f : RecordFault). (f.place ≡ place) × (IsUndefined First said place f.fault ⊎ IsUndefined Second said place f.fault)) old all
    both_once told not_itself other second all stay_all none once =
        stay_all (λ f h has.
        let named = (told_is (IsUndefined Second said place) other second f.fault).0 h.1 in
        elim ((told f).0 has) [ inl before ↦ none f (h.0, inr named) before | inr now ↦ not_itself (both_named f.fault ((told_is (IsUndefined First said place) found answer f.fault).0 now.1) named) ])
        (first_once none once)

-- ---- the kinds of what is told of a place, in their turn
abbrev pub turn : Fault → ℕ
turn (fault.Shape s) = 0
turn (fault.Repeated k first) = 1
turn (fault.Overlaps other) = 2
turn (fault.Undefined k) = 3
turn fault.NoOperation = 4
turn (fault.TooMany g count) = 5
turn (fault.BeyondStock other) = 6
turn _ = 7

-- of the place only kinds of earlier turns are told, and none twice
pub record IsToldTo (place n : ℕ) (faults : List RecordFault) : Type 0 where
  pub earlier : (f : RecordFault) → Contains faults f → f.place ≡ place → turn f.fault < n
  pub once : AllPairs (λ (a : RecordFault) (b : RecordFault). a ≢ b) faults

pub begun : (place : ℕ) (faults : List RecordFault) → ((f : RecordFault) → f.place ≡ place → ¬ Contains faults f) → AllPairs (λ (a : RecordFault) (b : RecordFault). a ≢ b) faults → IsToldTo place 0 faults
begun place faults none once = record { earlier = λ f has at. absurd (none f at has); once = once }

module _ {old new : List RecordFault} (place n : ℕ) where
  pub told_by : (P : Fault → Type 0) → ((g : Fault) → P g → turn g ≡ n) → ((f : RecordFault) → Contains new f ↔ (Contains old f ⊎ ((f.place ≡ place) × P f.fault))) → StayOnce (λ (f : RecordFault). (f.place ≡ place) × P f.fault) old new → IsToldTo place n old → IsToldTo place (n + 1) new
  told_by P turns told stay is = record {
    earlier = λ f has at. elim ((told f).0 has) [
      | inl before ↦ let lt = is.earlier f before at in omega (arith, lt)
      | inr here ↦ let now = turns f.fault here.1 in omega (arith, now)
    ];
    once = stay (λ f here has. let now = turns f.fault here.1 in let lt = is.earlier f has here.0 in omega (arith, now, lt)) is.once;
  }

  -- what is found of the next kind is told
  pub told_next : (P : Fault → Type 0) (found : Option Fault) → IsAnswer P found → ((g : Fault) → P g → turn g ≡ n) → ((f : RecordFault) → Contains new f ↔ (Contains old f ⊎ ((f.place ≡ place) × (found ≡ Some f.fault)))) → StayOnce (λ (f : RecordFault). (f.place ≡ place) × (found ≡ Some f.fault)) old new → IsToldTo place n old → IsToldTo place (n + 1) new
  told_next P found answer turns = told_by (λ g. found ≡ Some g) (λ g e. turns g ((told_is P found answer g).0 e))

pub silent_turn : (records : List Fields) (said : Sayings) (place : ℕ) (f : Fault) → IsSilent records said place f → turn f ≡ 0
silent_turn records said place (fault.Shape s) h = refl
silent_turn records said place _ h = absurd h

pub repetition_turn : (said : Sayings) (place : ℕ) (f : Fault) → IsRepetition said place f → turn f ≡ 1
repetition_turn said place (fault.Repeated k first) h = refl
repetition_turn said place _ h = absurd h

pub overlap_turn : (said : Sayings) (place : ℕ) (f : Fault) → IsOverlap said place f → turn f ≡ 2
overlap_turn said place (fault.Overlaps other) h = refl
overlap_turn said place _ h = absurd h

pub undefined_turn : (said : Sayings) (place : ℕ) (f : Fault) → IsUndefined First said place f ⊎ IsUndefined Second said place f → turn f ≡ 3
undefined_turn said place (fault.Undefined k) h = refl
undefined_turn said place _ h = absurd (elim h [ inl x ↦ x | inr x ↦ x ])

pub unused_turn : (said : Sayings) (place : ℕ) (f : Fault) → IsUnused said place f → turn f ≡ 4
unused_turn said place fault.NoOperation h = refl
unused_turn said place _ h = absurd h

pub crowd_turn : (said : Sayings) (place : ℕ) (f : Fault) → IsCrowd said place f → turn f ≡ 5
crowd_turn said place (fault.TooMany g count) h = refl
crowd_turn said place _ h = absurd h

pub beyond_turn : (said : Sayings) (place : ℕ) (f : Fault) → IsBeyondStock said place f → turn f ≡ 6
beyond_turn said place (fault.BeyondStock other) h = refl
beyond_turn said place _ h = absurd h
