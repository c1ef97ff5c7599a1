-- What is made of each element of a list and added to another, as far as it has come.
use Rattle.std.proofs.Common.{◌≡◌, sym, ap, subst, ◌∙◌, arith, ℕ, suc, ◌+◌, ◌<◌, ◌≤◌, List, [], ◌∷◌, ◌++◌, map, length, take, get_or, Contains}
use Rattle.std.proofs.Math.Seq.{take-suc}
use Rattle.std.proofs.lemmas.List.{append-nil, append_assoc, take_all}
use Rattle.std.proofs.lemmas.List.Elements.{Contains-get_or}
use Rattle.row_differences.proofs.Joined.{map_joined}

-- after what is in old, new has what is made of the first k of these
abbrev pub IsMadeOf : {X Row : Type 0} → (X → Row → Type 0) → List X → ℕ → List Row → List Row → Type 0
IsMadeOf {X} {Row} Made xs k old new = (f : X → Row) → ((x : X) (r : Row) → Contains xs x → Made x r → r ≡ f x) → new ≡ old ++ map f (take k xs)

module _ {X Row : Type 0} (Made : X → Row → Type 0) (xs : List X) where
  pub made_none : (old : List Row) → IsMadeOf Made xs 0 old old
  made_none old f gives = sym (append-nil old)

  pub made_next : (k : ℕ) (old new : List Row) (x : X) (r : Row) → k < length xs → x ≡ get_or xs k x → IsMadeOf Made xs k old new → Made x r → IsMadeOf Made xs (k + 1) old (new ++ r ∷ [])
  made_next k old new x r lt is h made f gives =
      let has : Contains xs x = subst (Contains xs) (sym is) (Contains-get_or xs k x lt) in
      let same : r ≡ f (get_or xs k x) = gives x r has made ∙ ap f is in
      let more_by_one : k + 1 ≡ suc k = omega arith in
      let taken : take (k + 1) xs ≡ take k xs ++ get_or xs k x ∷ [] = ap (λ n. take n xs) more_by_one ∙ take-suc xs k x lt in
      let last : map f (take k xs) ++ r ∷ [] ≡ map f (take (k + 1) xs) = ap (λ y. map f (take k xs) ++ y ∷ []) same ∙ (sym (map_joined f (take k xs) (get_or xs k x ∷ [])) ∙ ap (map f) (sym taken)) in
      ap (λ ys. ys ++ r ∷ []) (h f gives) ∙ (append_assoc old (map f (take k xs)) (r ∷ []) ∙ ap (λ zs. old ++ zs) last)

  pub made_all : (k : ℕ) (old new : List Row) → length xs ≤ k → IsMadeOf Made xs k old new → (f : X → Row) → ((x : X) (r : Row) → Contains xs x → Made x r → r ≡ f x) → new ≡ old ++ map f xs
  made_all k old new end h f gives = h f gives ∙ ap (λ ys. old ++ map f ys) (take_all k xs end)
