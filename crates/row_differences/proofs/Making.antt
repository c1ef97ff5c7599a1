-- What is made at indices and added to a list, as far as it has come.
use Rattle.std.proofs.Common.{◌≡◌, refl, sym, subst, ap, ap₂, ◌∙◌, arith, ℕ, suc, ◌+◌, ◌<◌, ◌≤◌, List, [], ◌∷◌, ◌++◌, map, length, take, get_or, slice_get, Contains, Some}
use Rattle.std.proofs.Math.Seq.{take-suc}
use Rattle.std.proofs.lemmas.List.{append-nil, append_assoc, take_all}
use Rattle.std.proofs.lemmas.List.Elements.{Contains-get_or}
use Rattle.row_differences.specs.Changes.{AreAt}
use Rattle.row_differences.proofs.Joined.{map_joined}

-- after what is in old, new has what is made at the first k of these indices
abbrev pub IsMadeTo : {Row : Type 0} → (ℕ → Row → Type 0) → List ℕ → ℕ → List Row → List Row → Type 0
IsMadeTo {Row} Made places k old new = (all : List Row) → ((i : ℕ) (r : Row) → Contains places i → Made i r → slice_get all i ≡ Some r) → (more : List Row) × AreAt all (take k places) more × (new ≡ old ++ more)

module _ {Row : Type 0} (Made : ℕ → Row → Type 0) (places : List ℕ) where
  pub made_none : (old : List Row) → IsMadeTo Made places 0 old old
  made_none old all gives = ([], refl, sym (append-nil old))

  pub made_next : (k : ℕ) (old new : List Row) (r : Row) → k < length places → IsMadeTo Made places k old new → Made (get_or places k 0) r → IsMadeTo Made places (k + 1) old (new ++ r ∷ [])
  made_next k old new r lt h made all gives =
      let (more, at, is) = h all gives in
      let i = get_or places k 0 in
      let next : slice_get all i ≡ Some r = gives i r (Contains-get_or places k 0 lt) made in
      let more_by_one : k + 1 ≡ suc k = omega arith in
      let taken : take (k + 1) places ≡ take k places ++ i ∷ [] = ap (λ n. take n places) more_by_one ∙ take-suc places k 0 lt in (
        more ++ r ∷ [],
        ap (map (slice_get all)) taken ∙ (map_joined (slice_get all) (take k places) (i ∷ []) ∙ (ap₂ (λ a b. a ++ b ∷ []) at next ∙ sym (map_joined Some more (r ∷ [])))),
        ap (λ xs. xs ++ r ∷ []) is ∙ append_assoc old more (r ∷ []),
      )

  pub made_all : (k : ℕ) (old new : List Row) → length places ≤ k → IsMadeTo Made places k old new → (all : List Row) → ((i : ℕ) (r : Row) → Contains places i → Made i r → slice_get all i ≡ Some r) → (more : List Row) × AreAt all places more × (new ≡ old ++ more)
  made_all k old new end h all gives =
      let (more, at, is) = h all gives in
      (more, subst (λ is. AreAt all is more) (take_all k places end) at, is)
