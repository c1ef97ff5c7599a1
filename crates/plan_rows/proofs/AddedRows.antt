-- What is added for what stands at some places, one place after the other.
use Rattle.std.proofs.Common.{◌≡◌, refl, sym, subst, ap, ap₂, ◌∙◌, arith, ℕ, suc, ◌+◌, ◌<◌, ◌≤◌, List, [], ◌∷◌, ◌++◌, length, map, take, get_or, slice_get, Some}
use Rattle.std.proofs.Math.Seq.{take-suc}
use Rattle.std.proofs.lemmas.List.{append-nil, append_assoc, take_all}
use Rattle.std.specs.List.{flat_map}
use Rattle.row_differences.proofs.Joined.{map_joined}
use Rattle.row_differences.specs.Changes.{AreAt}

-- after what is in old, new has what is added for what stands at the first k of these places
pub record AreAddedTo {X Y : Type 0} (add : X → List Y) (xs : List X) (places : List ℕ) (k : ℕ) (old new : List Y) : Type 0 where
  pub found : List X
  pub at : AreAt xs (take k places) found
  pub is : new ≡ old ++ flat_map add found

module _ {X Y : Type 0} (add : X → List Y) (xs : List X) (places : List ℕ) (old : List Y) where
  flat_more : (zs : List X) (z : X) → flat_map add (zs ++ z ∷ []) ≡ flat_map add zs ++ add z
  flat_more [] z = append-nil (add z)
  flat_more (x ∷ zs) z = ap (λ ys. add x ++ ys) (flat_more zs z) ∙ sym (append_assoc (add x) (flat_map add zs) (add z))

  pub none_added : AreAddedTo add xs places 0 old old
  none_added = record { found = []; at = refl; is = sym (append-nil old) }

  pub one_added : (k : ℕ) (so_far new : List Y) (z : X) → k < length places → AreAddedTo add xs places k old so_far → slice_get xs (get_or places k 0) ≡ Some z → new ≡ so_far ++ add z → AreAddedTo add xs places (k + 1) old new
  one_added k so_far new z lt added there is =
      let i = get_or places k 0 in
      let more_by_one : k + 1 ≡ suc k = omega arith in
      let taken : take (k + 1) places ≡ take k places ++ i ∷ [] = ap (λ n. take n places) more_by_one ∙ take-suc places k 0 lt in
      record {
        found = added.found ++ z ∷ [];
        at = ap (map (slice_get xs)) taken ∙ (map_joined (slice_get xs) (take k places) (i ∷ []) ∙ (ap₂ (λ a b. a ++ b ∷ []) added.at there ∙ sym (map_joined Some added.found (z ∷ []))));
        is = is ∙ ap (λ rs. rs ++ add z) added.is ∙ append_assoc old (flat_map add added.found) (add z) ∙ ap (λ rs. old ++ rs) (sym (flat_more added.found z));
      }

  pub all_added : (k : ℕ) (new : List Y) → length places ≤ k → AreAddedTo add xs places k old new → (found : List X) × AreAt xs places found × (new ≡ old ++ flat_map add found)
  all_added k new end added = (added.found, subst (λ is. AreAt xs is added.found) (take_all k places end) added.at, added.is)

-- an element itself
abbrev pub itself : {Y : Type 0} → Y → List Y
itself y = y ∷ []

pub all_themselves : {Y : Type 0} (ys : List Y) → flat_map itself ys ≡ ys
all_themselves [] = refl
all_themselves (y ∷ ys) = ap (λ zs. y ∷ zs) (all_themselves ys)
