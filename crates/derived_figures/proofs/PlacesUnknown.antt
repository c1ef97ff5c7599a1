-- Places that aren't among others, one after the other.
use Rattle.std.proofs.Common.{◌≡◌, refl, sym, ap, subst, ◌∙◌, ℕ, ◌+◌, Bool, true, false, not, nat_eq, ◌||◌, List, [], ◌∷◌, ◌++◌, length, Contains}
use Rattle.std.proofs.lemmas.Bool.{eqb-true}
use Rattle.std.proofs.lemmas.List.{length-append}
use Rattle.std.proofs.lemmas.List.Elements.{filter-append}
use Rattle.plan_basics.proofs.Members.{contains_head, contains_later}
use Rattle.derived_figures.specs.UnknownPlaces.{is_place_among, unknown_places}

not_told : (p i : ℕ) (known : List ℕ) → ¬ Contains (p ∷ known) i → is_place_among known i ≡ false → (b : Bool) → nat_eq p i ≡ b → (nat_eq p i || is_place_among known i) ≡ false
not_told p i known none rest true told = absurd (none (subst (λ q. Contains (q ∷ known) i) (sym (eqb-true p i told)) (contains_head i known)))
not_told p i known none rest false told = ap (λ b. b || is_place_among known i) told ∙ rest

-- what isn't among them isn't told to be
pub not_among : (known : List ℕ) (i : ℕ) → ¬ Contains known i → is_place_among known i ≡ false
not_among [] i none = refl
not_among (p ∷ known) i none = not_told p i known none (not_among known i (λ has. none (contains_later p known i has))) (nat_eq p i) refl

-- one more
pub one_beside : (known places : List ℕ) (i : ℕ) → length (unknown_places known (places ++ i ∷ [])) ≡ length (unknown_places known places) + length (unknown_places known (i ∷ []))
one_beside known places i =
    ap length (filter-append (λ j. not (is_place_among known j)) places (i ∷ [])) ∙ length-append (unknown_places known places) (unknown_places known (i ∷ []))
