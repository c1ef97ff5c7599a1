-- Lists of two types of which each element of the one goes with that of the other.
use Rattle.std.proofs.Common.{◌≡◌, refl, sym, ap, subst, arith, ℕ, zero, suc, ◌+◌, ◌<◌, List, [], ◌∷◌, ◌++◌, length, take, get_or}
use Rattle.std.specs.List.{AllZip}
use Rattle.std.proofs.lemmas.List.{take_more}

module _ {X Y : Type 0} (R : X → Y → Type 0) where
  pub paired_length : (xs : List X) (ys : List Y) → AllZip R xs ys → length xs ≡ length ys
  paired_length [] [] h = refl
  paired_length [] (y ∷ ys) h = absurd h
  paired_length (x ∷ xs) [] h = absurd h
  paired_length (x ∷ xs) (y ∷ ys) h = ap suc (paired_length xs ys h.1)

  pub paired_at : (xs : List X) (ys : List Y) (i : ℕ) (d : X) (e : Y) → AllZip R xs ys → i < length xs → R (get_or xs i d) (get_or ys i e)
  paired_at [] ys i d e h lt = absurd (omega (arith, lt))
  paired_at (x ∷ xs) [] i d e h lt = absurd h
  paired_at (x ∷ xs) (y ∷ ys) zero d e h lt = h.0
  paired_at (x ∷ xs) (y ∷ ys) (suc i) d e h lt = paired_at xs ys i d e h.1 (omega (arith, lt))

  paired_pushed : (xs : List X) (ys : List Y) (x : X) (y : Y) → AllZip R xs ys → R x y → AllZip R (xs ++ x ∷ []) (ys ++ y ∷ [])
  paired_pushed [] [] x y h r = (r, tt)
  paired_pushed [] (b ∷ ys) x y h r = absurd h
  paired_pushed (a ∷ xs) [] x y h r = absurd h
  paired_pushed (a ∷ xs) (b ∷ ys) x y h r = (h.0, paired_pushed xs ys x y h.1 r)

  -- one more of the first ones
  pub paired_more : (xs : List X) (ys : List Y) (i : ℕ) (d : X) (y : Y) → i < length xs → AllZip R (take i xs) ys → R (get_or xs i d) y → AllZip R (take (i + 1) xs) (ys ++ y ∷ [])
  paired_more xs ys i d y lt h r = subst (λ taken. AllZip R taken (ys ++ y ∷ [])) (sym (take_more xs i d lt)) (paired_pushed (take i xs) ys (get_or xs i d) y h r)
