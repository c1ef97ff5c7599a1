-- Faults of what is added that are told once.
use Rattle.std.proofs.Common.{◌≡◌, ◌≢◌, inl, inr, refl, sym, ap, subst, ◌∙◌, arith, ℕ, ◌<◌, List, [], ◌∷◌, ◌++◌, length, get_or, slice_get, swap, IsPermutation, AllPairs, Contains, Some}
use Rattle.std.proofs.lemmas.Bool.{cases_eq, cases_lt}
use Rattle.std.proofs.lemmas.Option.{same_Some, slice_get-get_or, slice_get_within}
use Rattle.std.proofs.lemmas.List.Edits.{Swapped, swapped_from_swap, length-swap}
use Rattle.std.proofs.lemmas.List.Elements.{All-contains, Contains-append_cases}
use Rattle.std.proofs.lemmas.List.Sorted.{IsPermutation-keeps}
use Rattle.plan_basics.proofs.Members.{all_by_members, contains_head, contains_later}
use Rattle.plan_drafts.proofs.Lists.{Differ, differ_from_pairs, pairs_from_differ}
use Rattle.record_faults.specs.declared.faults.Fault.{Fault}
use Rattle.record_faults.specs.declared.faults.RecordFault.{RecordFault}
use Rattle.record_faults.specs.Sayings.{Sayings}
use Rattle.text_faults.specs.declared.additions.faults.AddedText.{AddedText}
use Rattle.text_faults.specs.declared.additions.faults.AddedFault.{AddedFault}
use Rattle.text_faults.specs.declared.additions.faults.AddedFault.TheVariants as of_added
use Rattle.text_faults.specs.declared.additions.faults.PlacedFault.{PlacedFault}
use Rattle.text_faults.specs.AddedFaults.{IsAdditionFault, AreToldBelow, IsToldOf, IsToldAt, IsAdditionFaultAt}

-- ---- two lists that have none in common
module _ {X : Type 0} where
  differ_append : (xs ys : List X) → Differ (λ a b. a ≢ b) xs → Differ (λ a b. a ≢ b) ys → ((x : X) → Contains xs x → ¬ Contains ys x) → Differ (λ a b. a ≢ b) (xs ++ ys)
  differ_append [] ys h k apart = k
  differ_append (x ∷ xs) ys h k apart = (
    all_by_members (λ b. x ≢ b) (xs ++ ys) (λ b has same. elim (Contains-append_cases xs ys b has) [
      | inl first ↦ All-contains (λ b. x ≢ b) xs b h.0 first same
      | inr later ↦ apart b (subst (Contains (x ∷ xs)) same (contains_head x xs)) later
    ]),
    differ_append xs ys h.1 k (λ y has. apart y (contains_later x xs y has)),
  )

  pub append_once : (xs ys : List X) → AllPairs (λ a b. a ≢ b) xs → AllPairs (λ a b. a ≢ b) ys → ((x : X) → Contains xs x → ¬ Contains ys x) → AllPairs (λ a b. a ≢ b) (xs ++ ys)
  append_once xs ys h k apart = pairs_from_differ (λ a b. a ≢ b) (xs ++ ys) (differ_append xs ys (differ_from_pairs (λ a b. a ≢ b) xs h) (differ_from_pairs (λ a b. a ≢ b) ys k) apart)

-- ---- another order
-- where the element at a place was before a and b changed places
was_at : {X : Type 0} (f g : ℕ → X) (a b n : ℕ) → Swapped f g a b → a < n → b < n → (p : ℕ) → p < n → (s : ℕ) × (s < n) × (g p ≡ f s) × (p ≡ a → s ≡ b) × (p ≡ b → s ≡ a) × (p ≢ a → p ≢ b → s ≡ p)
was_at f g a b n moved in_a in_b p within = elim (cases_eq p a) [
  | inl at_a ↦ (b, in_b, ap g at_a ∙ moved.0, λ _. refl, λ at_b. omega (arith, at_a, at_b), λ u v. absurd (u at_a))
  | inr not_a ↦ elim (cases_eq p b) [
    | inl at_b ↦ (a, in_a, ap g at_b ∙ moved.1, λ at_a. absurd (not_a at_a), λ _. refl, λ u v. absurd (v at_b))
    | inr not_b ↦ (p, within, moved.2 p not_a not_b, λ at_a. absurd (not_a at_a), λ at_b. absurd (not_b at_b), λ u v. refl)
  ]
]

-- two places were two
two_were : (a b i j s t : ℕ) → i ≢ j → (i ≡ a → s ≡ b) → (i ≡ b → s ≡ a) → (i ≢ a → i ≢ b → s ≡ i) → (j ≡ a → t ≡ b) → (j ≡ b → t ≡ a) → (j ≢ a → j ≢ b → t ≡ j) → s ≢ t
two_were a b i j s t two p q r x y z same = grind arith

module _ {X : Type 0} where
  swap_once : (xs : List X) (a b : ℕ) → a < length xs → b < length xs → AllPairs (λ x y. x ≢ y) xs → AllPairs (λ x y. x ≢ y) (swap xs a b)
  swap_once xs a b in_a in_b once i j d lt within same =
      let long = length-swap xs a b in
      let moved = swapped_from_swap xs (swap xs a b) a b d in_a in_b refl in
      let u = was_at (λ i. get_or xs i d) (λ i. get_or (swap xs a b) i d) a b (length xs) moved in_a in_b i (omega (arith, lt, within, long)) in
      let v = was_at (λ i. get_or xs i d) (λ i. get_or (swap xs a b) i d) a b (length xs) moved in_a in_b j (omega (arith, within, long)) in
      let two = two_were a b i j u.0 v.0 (λ e. omega (arith, e, lt)) u.3 u.4 u.5 v.3 v.4 v.5 in
      let alike : get_or xs u.0 d ≡ get_or xs v.0 d = sym u.2 ∙ same ∙ v.2 in
      elim (cases_lt u.0 v.0) [
        | inl less ↦ once u.0 v.0 d less v.1 alike
        | inr le ↦ once v.0 u.0 d (omega (arith, le, two)) u.1 (sym alike)
      ]

  pub permuted_once : (xs ys : List X) → IsPermutation xs ys → AllPairs (λ x y. x ≢ y) xs → AllPairs (λ x y. x ≢ y) ys
  permuted_once xs ys same once = IsPermutation-keeps xs (AllPairs (λ x y. x ≢ y)) once (λ l i j p q h. swap_once l i j p q h) ys same

-- ---- what is told of each
abbrev kind_in : Fault → AddedFault → Fault
kind_in other (of_added.OfRecord f) = f
kind_in other _ = other

-- what is told of two faults of a plan is two
module _ (added : AddedText) (said : Sayings) (found : List RecordFault) (once : AllPairs (λ (a : RecordFault) (b : RecordFault). a ≢ b) found) where
  pub not_told_before : (n : ℕ) (g : RecordFault) → slice_get found n ≡ Some g → (faults : List PlacedFault) → AreToldBelow (IsToldAt added said found) n faults → (f : PlacedFault) → IsToldOf added said g f → ¬ Contains faults f
  not_told_before n g at faults are f told has =
      let before = (are f).0 has in
      let other = before.2 in
      let places : other.0.place ≡ g.place = sym other.2.0 ∙ told.0 in
      let kinds : other.0.fault ≡ g.fault = ap (kind_in g.fault) (sym other.2.1 ∙ told.1) in
      let same : other.0 ≡ g = λ i. record { place = places i; fault = kinds i } in
      let within = slice_get_within found n g at in
      let lt = before.1 in
      let first : get_or found before.0 g ≡ other.0 = same_Some (get_or found before.0 g) other.0 (sym (slice_get-get_or found before.0 g (omega (arith, lt, within))) ∙ other.1) in
      let second : get_or found n g ≡ g = same_Some (get_or found n g) g (sym (slice_get-get_or found n g within) ∙ at) in
      once before.0 n g lt within (first ∙ same ∙ sym second)

-- what is beside of two records is two
pub not_beside_before : (added : AddedText) (said : Sayings) (n : ℕ) (faults : List PlacedFault) → AreToldBelow (IsAdditionFaultAt added said) n faults → (f : PlacedFault) → IsAdditionFaultAt added said n f → ¬ Contains faults f
not_beside_before added said n faults are f here has =
    let before = (are f).0 has in
    let lt = before.1 in
    let at = before.2.0 in
    let now = here.0 in
    omega (arith, lt, at, now)

-- and none of it is a plan's
pub none_in_both : (added : AddedText) (said : Sayings) (found : List RecordFault) (n m : ℕ) (judged beside : List PlacedFault) → AreToldBelow (IsToldAt added said found) n judged → AreToldBelow (IsAdditionFaultAt added said) m beside → (f : PlacedFault) → Contains judged f → ¬ Contains beside f
none_in_both added said found n m judged beside told others f has too =
    let first = ((told f).0 has).2 in
    let second = (others f).0 too in
    subst (IsAdditionFault added said second.0) first.2.1 second.2.1
