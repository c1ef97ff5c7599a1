-- Lemmas on lists and on what a value tells.
use Rattle.std.proofs.Common.{◌≡◌, ℕ, ◌+◌, ◌<◌, ◌^◌, List, [], ◌∷◌, ◌++◌, length, take, map, get_or, true, false, cond, Option, Some, None, Result, Ok, MatchOption, IfSome, refl, sym, ◌∙◌, ap, subst, arith, append-nil}
use Rattle.std.specs.List.{filter, All}
use Rattle.std.specs.Result.{result_ok}
use Rattle.std.specs.Str.{IsUtf8}
use Rattle.std.specs.Str.Parse.{digits_value, ParsesUnsigned}
use Rattle.std.proofs.lemmas.List.{map-append, take_more}
use Rattle.std.proofs.lemmas.List.Elements.{filter-append, All-nil, All-cons, All-head, All-tail}
use Rattle.std.proofs.lemmas.Str.Parse.{IsNumeralModel, IsDigitsTest, numerals_by_value, parse_gives, digits_value_short}
use Rattle.std.proofs.lemmas.Str.{IsUtf8-from_ascii}
use Rattle.std.proofs.lemmas.Fmt.{IsAscii-from_digits}
use Rattle.http_messages.specs.Fields.{IsDigit, IsLengthText, TellsLength, is_named, values_of}

-- a fact of every value holds of the one that is known, if one is
pub IfSome-each : {A : Type 0} (o : Option A) (P : A → Type 0) → ((x : A) → P x) → IfSome o P
IfSome-each None P h = tt
IfSome-each (Some x) P h = h x

pub IfSome-weaker : {A : Type 0} (o : Option A) (P Q : A → Type 0) → ((x : A) → P x → Q x) → IfSome o P → IfSome o Q
IfSome-weaker None P Q h p = tt
IfSome-weaker (Some x) P Q h p = h x p

tells_digits : IsDigitsTest (All IsDigit)
tells_digits = record {
  empty = All-nil IsDigit;
  parts = λ c cs h. (All-head IsDigit c cs h, All-tail IsDigit c cs h);
  more = λ c cs h t. All-cons IsDigit c cs h t;
}

pub own : IsNumeralModel (All IsDigit) (digits_value 10)
own = numerals_by_value (All IsDigit) tells_digits

-- digits are text
pub text_of_length : (t : List ℕ) → IsLengthText t → IsUtf8 t
text_of_length t h = IsUtf8-from_ascii t (IsAscii-from_digits t (own.to t h.digits))

-- what is read of a length
pub told : {E : Type 0} (t : List ℕ) (r : Result ℕ E) → IsLengthText t → ParsesUnsigned 64 10 t r → MatchOption (result_ok r) ((n : ℕ) → ¬ TellsLength t n) (TellsLength t)
told {E = E} t r h p =
    let small : digits_value 10 t < 2 ^ 64 = omega (arith, digits_value_short own t 9 h.digits h.short) in
    let read : r ≡ Ok (digits_value 10 t) = parse_gives own {E = E} 64 t r p h.digits h.some small in
    subst (λ (s : Result ℕ E). MatchOption (result_ok s) ((n : ℕ) → ¬ TellsLength t n) (TellsLength t)) (sym read) (h, refl)

module _ {X : Type 0} (f : X → List ℕ × List ℕ) (name : List ℕ) where
  -- the values of the fields of a name, with one field more that has another name, or this one
  grown : (front : List X) (x : X) → values_of name (map f (front ++ x ∷ [])) ≡ values_of name (map f front) ++ map (λ field. field.1) (cond (is_named name (f x)) (f x ∷ []) [])
  grown front x =
      ap (values_of name) (map-append f front (x ∷ []))
      ∙ ap (map (λ field. field.1)) (filter-append (is_named name) (map f front) (f x ∷ []))
      ∙ map-append (λ field. field.1) (filter (is_named name) (map f front)) (cond (is_named name (f x)) (f x ∷ []) [])

  pub values-more : (xs : List X) (i : ℕ) (d : X) → i < length xs → is_named name (f (get_or xs i d)) ≡ true
      → values_of name (map f (take (i + 1) xs)) ≡ values_of name (map f (take i xs)) ++ (f (get_or xs i d)).1 ∷ []
  values-more xs i d h e =
      ap (λ l. values_of name (map f l)) (take_more xs i d h)
      ∙ grown (take i xs) (get_or xs i d)
      ∙ ap (λ v. values_of name (map f (take i xs)) ++ map (λ field. field.1) (cond v (f (get_or xs i d) ∷ []) [])) e

  pub values-same : (xs : List X) (i : ℕ) (d : X) → i < length xs → is_named name (f (get_or xs i d)) ≡ false
      → values_of name (map f (take (i + 1) xs)) ≡ values_of name (map f (take i xs))
  values-same xs i d h e =
      ap (λ l. values_of name (map f l)) (take_more xs i d h)
      ∙ grown (take i xs) (get_or xs i d)
      ∙ ap (λ v. values_of name (map f (take i xs)) ++ map (λ field. field.1) (cond v (f (get_or xs i d) ∷ []) [])) e
      ∙ append-nil (values_of name (map f (take i xs)))
