-- The texts that tell faults, one beside each.
use Rattle.std.proofs.Common.{◌≡◌, ◌↔◌, ◌∙◌, refl, sym, ap, subst, ℕ, ◌+◌, ◌<◌, List, [], ◌∷◌, ◌++◌, false, get_or, length, map, take}
use Rattle.std.proofs.lemmas.List.{map-append, take_more}
use Rattle.std.specs.List.{AllZip}
use Rattle.serde_json.specs.Data.{Data, string}
use Rattle.serde_json.specs.View.{items_of}
use Rattle.serde_json.specs.Written.{has_float, items_have_float}
use Rattle.tracker_http.specs.Faulty.{faulty_data}

module _ {A B : Type 0} (R : A → B → Type 0) where
  zip_last : (xs : List A) (ys : List B) (x : A) (y : B) → AllZip R xs ys → R x y → AllZip R (xs ++ x ∷ []) (ys ++ y ∷ [])
  zip_last [] [] x y h r = (r, tt)
  zip_last [] (b ∷ ys) x y h r = absurd h
  zip_last (a ∷ xs) [] x y h r = absurd h
  zip_last (a ∷ xs) (b ∷ ys) x y h r = (h.0, zip_last xs ys x y h.1 r)

  -- one more of each
  pub zip_more : (xs : List A) (ys : List B) (i : ℕ) (x : A) (y : B) → i < length xs → x ≡ get_or xs i x → AllZip R (take i xs) ys → R x y → AllZip R (take (i + 1) xs) (ys ++ y ∷ [])
  zip_more xs ys i x y within at h r =
      let more : take (i + 1) xs ≡ take i xs ++ x ∷ [] = take_more xs i x within ∙ ap (λ u. take i xs ++ u ∷ []) (sym at) in
      subst (λ zs. AllZip R zs (ys ++ y ∷ [])) (sym more) (zip_last (take i xs) ys x y h r)

pub zip_map : {A B C : Type 0} (f : B → C) (R : A → C → Type 0) (xs : List A) (ys : List B) → AllZip (λ x y. R x (f y)) xs ys → AllZip R xs (map f ys)
zip_map f R [] [] h = tt
zip_map f R [] (y ∷ ys) h = absurd h
zip_map f R (x ∷ xs) [] h = absurd h
zip_map f R (x ∷ xs) (y ∷ ys) h = (h.0, zip_map f R xs ys h.1)

-- there are none of the one exactly where there are none of the other
pub none_zipped : {A B C : Type 0} (f : B → C) (R : A → C → Type 0) (xs : List A) (ys : List B) → AllZip R xs (map f ys) → (xs ≡ []) ↔ (ys ≡ [])
none_zipped f R [] [] h = (λ e. refl, λ e. refl)
none_zipped f R [] (y ∷ ys) h = absurd h
none_zipped f R (x ∷ xs) [] h = absurd h
none_zipped f R (x ∷ xs) (y ∷ ys) h = (λ e. absurd (cc e), λ e. absurd (cc e))

-- lines have no float
pub lines_plain : (lines : List (List ℕ)) → items_have_float (items_of (map string lines)) ≡ false
lines_plain [] = refl
lines_plain (line ∷ lines) = lines_plain lines

-- nor has what has them
pub faulty_plain : (code : ℕ) (lines : List (List ℕ)) → has_float (faulty_data code (map string lines)) ≡ false
faulty_plain code lines = rw (lines_plain lines) refl

-- one line more, as a value
module _ {V : Type 0} (seen : V → Data) where
  pub value_more : {L : Type 0} (bytes : L → List ℕ) (vs : List V) (v : V) (lines : List L) (i : ℕ) (line : L) → i < length lines → line ≡ get_or lines i line → seen v ≡ string (bytes line)
      → map seen vs ≡ map string (map bytes (take i lines)) → map seen (vs ++ v ∷ []) ≡ map string (map bytes (take (i + 1) lines))
  value_more bytes vs v lines i line within at is before =
      let more : take (i + 1) lines ≡ take i lines ++ line ∷ [] = take_more lines i line within ∙ ap (λ l. take i lines ++ l ∷ []) (sym at) in
      map-append seen vs (v ∷ [])
      ∙ ap (λ ds. ds ++ seen v ∷ []) before
      ∙ ap (λ d. map string (map bytes (take i lines)) ++ d ∷ []) is
      ∙ sym (ap (λ ls. map string (map bytes ls)) more ∙ ap (map string) (map-append bytes (take i lines) (line ∷ [])) ∙ map-append string (map bytes (take i lines)) (bytes line ∷ []))
