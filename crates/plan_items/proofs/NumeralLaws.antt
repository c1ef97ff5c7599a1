-- Plain numerals are just the texts of numbers.
use Rattle.std.proofs.Common.{◌≡◌, ℕ, ◌<◌, ◌^◌, List, suc, zero, length, get_or, sym, subst, ap, lit<, arith}
use Rattle.std.proofs.Common.{◌≤◌, ◌+◌, ◌*◌, ◌-◌, ◌∙◌, [], ◌∷◌, drop}
use Rattle.std.specs.Fmt.{decimal}
use Rattle.std.specs.List.{All}
use Rattle.std.proofs.lemmas.List.Elements.{All-nil, All-cons, All-head, All-tail}
use Rattle.std.specs.Char.{digit_value}
use Rattle.std.specs.Str.Parse.{digits_value, digits_value_after}
use Rattle.std.proofs.lemmas.Bool.Decides.{nat_tests}
use Rattle.std.proofs.lemmas.List.{drop_more}
use Rattle.std.proofs.lemmas.Str.Parse.{IsNumeralModel, IsDigitsTest, numerals_by_value}
use Rattle.std.proofs.lemmas.Fmt.{digits_decimal, digits_value-decimal, decimal_nonempty, first_decimal, decimal-digits_value, decimal_digit}
use Rattle.plan_items.specs.Numerals.{IsDigit, IsPlainNumeral}

tells_digits : IsDigitsTest (All IsDigit)
tells_digits = record {
  empty = All-nil IsDigit;
  parts = λ c cs h. (All-head IsDigit c cs h, All-tail IsDigit c cs h);
  more = λ c cs h t. All-cons IsDigit c cs h t;
}

pub own : IsNumeralModel (All IsDigit) (digits_value 10)
own = numerals_by_value (All IsDigit) tells_digits

zero_alone : (n : ℕ) → n < 2 ^ 64 → get_or (decimal n) 0 0 ≡ 48 → length (decimal n) ≡ 1
zero_alone zero h e = ap length (decimal_digit 0 (lit< tt))
zero_alone (suc n) h e = absurd (omega (arith, first_decimal (suc n) (omega arith) h))

-- the text of a number is a plain numeral, and its digits' value is that number
pub plain_decimal : (t : List ℕ) (n : ℕ) → n < 2 ^ 64 → t ≡ decimal n → IsPlainNumeral t × (digits_value 10 t ≡ n)
plain_decimal t n h e = subst (λ (u : List ℕ). IsPlainNumeral u × (digits_value 10 u ≡ n)) (sym e)
    (record { digits = digits_decimal own n h; some = decimal_nonempty n h; no_zero_before = zero_alone n h }, digits_value-decimal own n h)

-- a plain numeral is the text of its digits' value
pub decimal_of_plain : (t : List ℕ) → IsPlainNumeral t → digits_value 10 t < 2 ^ 64 → t ≡ decimal (digits_value 10 t)
decimal_of_plain t h small = sym (decimal-digits_value own t h.digits h.some h.no_zero_before small)

-- what digits write is no less than what those before them do
pub no_less : (n : ℕ) (ds : List ℕ) → n ≤ digits_value_after 10 n ds
no_less n [] = omega arith
no_less n (d ∷ ds) = let more = no_less (n * 10 + digit_value d) ds in omega (arith, more)

-- a digit's value
pub value_of_digit : (d : ℕ) → IsDigit d → digit_value d ≡ d - 48
value_of_digit d is = grind (arith, nat_tests, is.0, is.1)

-- one digit more
pub digit_more : (ds : List ℕ) (i n d : ℕ) → i < length ds → All IsDigit ds → d ≡ get_or ds i d → digits_value_after 10 n (drop i ds) ≡ digits_value_after 10 (n * 10 + (d - 48)) (drop (i + 1) ds)
digit_more ds i n d within all is =
    ap (digits_value_after 10 n) (drop_more ds i d within)
    ∙ ap (λ v. digits_value_after 10 (n * 10 + v) (drop (i + 1) ds)) (value_of_digit (get_or ds i d) (all i d within) ∙ ap (λ x. x - 48) (sym is))
