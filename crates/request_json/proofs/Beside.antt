-- Two lists beside each other, the first as its values are seen.
use Rattle.std.proofs.Common.{◌≡◌, ℕ, zero, suc, ◌+◌, ◌<◌, List, [], ◌∷◌, ◌++◌, length, get_or, take, map, sym, ap, ◌∙◌, subst, arith}
use Rattle.std.proofs.lemmas.List.{take_more, map-append}
use Rattle.std.specs.List.{AllZip}

zip_last : {A B : Type 0} (R : A → B → Type 0) (xs : List A) (ys : List B) (x : A) (y : B) → AllZip R xs ys → R x y → AllZip R (xs ++ x ∷ []) (ys ++ y ∷ [])
zip_last R [] [] x y h r = (r, tt)
zip_last R [] (b ∷ ys) x y h r = absurd h
zip_last R (a ∷ xs) [] x y h r = absurd h
zip_last R (a ∷ xs) (b ∷ ys) x y h r = (h.0, zip_last R xs ys x y h.1 r)

-- one more of each
pub zip_more : {A B C : Type 0} (f : C → A) (R : A → B → Type 0) (vs : List C) (ys : List B) (i : ℕ) (v : C) (y : B) → i < length vs → v ≡ get_or vs i v
    → AllZip R (map f (take i vs)) ys → R (f v) y → AllZip R (map f (take (i + 1) vs)) (ys ++ y ∷ [])
zip_more f R vs ys i v y within at h r =
    let more : map f (take (i + 1) vs) ≡ map f (take i vs) ++ f v ∷ [] = ap (map f) (take_more vs i v within) ∙ (map-append f (take i vs) _ ∙ ap (λ u. map f (take i vs) ++ f u ∷ []) (sym at)) in
    rw more (zip_last R (map f (take i vs)) ys (f v) y h r)

-- each of the first has one beside it
pub zip_at : {A B C : Type 0} (f : C → A) (R : A → B → Type 0) (vs : List C) (ys : List B) (i : ℕ) (v : C) → i < length vs → v ≡ get_or vs i v
    → AllZip R (map f vs) ys → (y : B) × R (f v) y
zip_at f R [] ys i v within at h = absurd (omega arith)
zip_at f R (x ∷ vs) [] i v within at h = absurd h
zip_at f R (x ∷ vs) (y ∷ ys) zero v within at h = (y, subst (λ u. R (f u) y) (sym at) h.0)
zip_at f R (x ∷ vs) (y ∷ ys) (suc i) v within at h = zip_at f R vs ys i v (omega arith) at h.1
