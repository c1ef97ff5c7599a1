-- What holds of each of a list's elements, by their indices, and of each two.
use Rattle.std.proofs.Common.{arith, zero, suc, List, [], ◌∷◌, inl}
use Rattle.std.specs.Prelude.{All, AllPairs}
use Rattle.operation_graph.proofs.Telling.{Told, told_alike, told_and}

pub first_of_all : {A : Type 0} (Q : A → Type 0) (x : A) (xs : List A) → All Q (x ∷ xs) → Q x
first_of_all Q x xs h = h 0 x (omega arith)

pub rest_of_all : {A : Type 0} (Q : A → Type 0) (x : A) (xs : List A) → All Q (x ∷ xs) → All Q xs
rest_of_all Q x xs h = λ i d k. h (suc i) d (omega (arith, k))

pub all_of : {A : Type 0} (Q : A → Type 0) (x : A) (xs : List A) → Q x → All Q xs → All Q (x ∷ xs)
all_of Q x xs first rest zero d k = first
all_of Q x xs first rest (suc i) d k = rest i d (omega (arith, k))

module _ {A : Type 0} (Q : A → Type 0) (each : (x : A) → Told (Q x)) where
  pub told_elements : (xs : List A) → Told (All Q xs)
  told_elements [] = inl (λ i d k. absurd (omega arith))
  told_elements (x ∷ xs) = told_alike {A = Q x × All Q xs} (λ h. all_of Q x xs h.0 h.1) (λ h. (first_of_all Q x xs h, rest_of_all Q x xs h)) (told_and (each x) (λ _. told_elements xs))

pub pairs_of : {A : Type 0} (R : A → A → Type 0) (x : A) (xs : List A) → All (R x) xs → AllPairs R xs → AllPairs R (x ∷ xs)
pairs_of R x xs first rest zero zero d h k = absurd (omega arith)
pairs_of R x xs first rest zero (suc j) d h k = first j d (omega arith)
pairs_of R x xs first rest (suc i) zero d h k = absurd (omega arith)
pairs_of R x xs first rest (suc i) (suc j) d h k = rest i j d (omega arith) (omega arith)

module _ {A : Type 0} (R : A → A → Type 0) (each : (x y : A) → Told (R x y)) where
  pub told_pairs_of : (xs : List A) → Told (AllPairs R xs)
  told_pairs_of [] = inl (λ i j d h k. absurd (omega arith))
  told_pairs_of (x ∷ xs) = told_alike {A = All (R x) xs × AllPairs R xs} (λ h. pairs_of R x xs h.0 h.1)
      (λ h. (λ j d k. h 0 (suc j) d (omega arith) (omega arith), λ i j d k l. h (suc i) (suc j) d (omega arith) (omega arith)))
      (told_and (told_elements (R x) (each x) xs) (λ _. told_pairs_of xs))
