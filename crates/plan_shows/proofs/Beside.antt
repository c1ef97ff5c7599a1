-- Two lists beside each other, as the second grows.
use Rattle.std.proofs.Common.{◌≡◌, ℕ, ◌+◌, ◌<◌, inl, inr, sym, ap, ◌∙◌, subst, List, [], ◌∷◌, ◌++◌, length, get_or, take, Contains}
use Rattle.std.proofs.lemmas.List.{take_more}
use Rattle.std.specs.List.{AllZip}
use Rattle.plan_reasons.specs.plan_drafts.proofs.Lists.{contains_cases, contains_head, contains_later, contains_none}

module _ {A B : Type 0} (R : A → B → Type 0) where
  zip_last : (xs : List A) (ys : List B) (x : A) (y : B) → AllZip R xs ys → R x y → AllZip R (xs ++ x ∷ []) (ys ++ y ∷ [])
  zip_last [] [] x y h r = (r, tt)
  zip_last [] (b ∷ ys) x y h r = absurd h
  zip_last (a ∷ xs) [] x y h r = absurd h
  zip_last (a ∷ xs) (b ∷ ys) x y h r = (h.0, zip_last xs ys x y h.1 r)

  -- one more of each
  pub zip_more : (xs : List A) (ys : List B) (i : ℕ) (x : A) (y : B) → i < length xs → x ≡ get_or xs i x → AllZip R (take i xs) ys → R x y → AllZip R (take (i + 1) xs) (ys ++ y ∷ [])
  zip_more xs ys i x y within at h r =
      let more : take (i + 1) xs ≡ take i xs ++ x ∷ [] = take_more xs i x within ∙ ap (λ u. take i xs ++ u ∷ []) (sym at) in
      subst (λ zs. AllZip R zs (ys ++ y ∷ [])) (sym more) (zip_last (take i xs) ys x y h r)

  -- each of the second has one beside it
  pub zip_back : (xs : List A) (ys : List B) → AllZip R xs ys → (y : B) → Contains ys y → (x : A) × Contains xs x × R x y
  zip_back [] [] h y has = absurd (contains_none y has)
  zip_back [] (b ∷ ys) h y has = absurd h
  zip_back (a ∷ xs) [] h y has = absurd h
  zip_back (a ∷ xs) (b ∷ ys) h y has =
      elim (contains_cases b ys y has) [
        | inl same ↦ (a, contains_head a xs, subst (R a) same h.0)
        | inr later ↦ let x = zip_back xs ys h.1 y later in (x.0, contains_later a xs x.0 x.1, x.2)
      ]
