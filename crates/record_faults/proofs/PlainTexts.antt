-- What the library's `parse` reads of a plain numeral.
use Rattle.std.proofs.Common.{◌≡◌, ℕ, ◌<◌, ◌≤◌, List, arith, Result, Ok, Err, MatchOption}
use Rattle.std.specs.Result.{result_ok}
use Rattle.std.specs.Str.{IsUtf8}
use Rattle.std.specs.Str.Parse.{digits_value, ParsesUnsigned}
use Rattle.std.proofs.lemmas.Str.Parse.{parse_digits}
use Rattle.std.proofs.lemmas.Str.{IsUtf8-from_ascii}
use Rattle.std.proofs.lemmas.Fmt.{IsAscii-from_digits}
use Rattle.plan_items.proofs.NumeralLaws.{own}
use Rattle.plan_items.specs.Numerals.{IsPlainNumeral}

-- digits are text
pub text_of_plain : (t : List ℕ) → IsPlainNumeral t → IsUtf8 t
text_of_plain t h = IsUtf8-from_ascii t (IsAscii-from_digits t (own.to t h.digits))

not_below : (m n : ℕ) → ¬ (m < n) → n ≤ m
not_below m n h = omega arith

-- what `parse` reads of a plain numeral
pub parsed : {E : Type 0} (t : List ℕ) (r : Result ℕ E) → IsPlainNumeral t → ParsesUnsigned 32 10 t r → MatchOption (result_ok r) (4294967296 ≤ digits_value 10 t) (λ n. n ≡ digits_value 10 t)
parsed {E = E} t (Ok x) p h = (parse_digits own {E = E} 32 t (Ok x) h p.digits).1
parsed {E = E} t (Err e) p h = let k = parse_digits own {E = E} 32 t (Err e) h p.digits in not_below (digits_value 10 t) 4294967296 (λ l. k (p.some, l))
