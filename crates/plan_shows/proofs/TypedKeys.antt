-- The key of an operation as people type it, by how many digits its number has.
use Rattle.std.proofs.Common.{◌≡◌, ℕ, ◌<◌, ◌≤◌, ◌^◌, refl, sym, ap, ◌∙◌, subst, inl, inr, arith, List, [], ◌∷◌, ◌++◌, length, Option, Some, None, Result, Ok, MatchOption}
use Rattle.std.proofs.lemmas.Bool.{cases_lt}
use Rattle.std.proofs.lemmas.Fmt.{IsAscii-from_digits}
use Rattle.std.proofs.lemmas.Str.{IsUtf8-from_ascii}
use Rattle.std.proofs.lemmas.Str.Parse.{digits_value_short, parse_gives}
use Rattle.std.specs.Result.{result_ok}
use Rattle.std.specs.Str.{IsUtf8}
use Rattle.std.specs.Str.Parse.{digits_value, ParsesUnsigned}
use Rattle.plan_basics.proofs.KeyLaws.{one_split}
use Rattle.plan_basics.specs.KeyTexts.{IsOccurrenceText, IsSplit, occurrence_text}
use Rattle.plan_basics.specs.Keys.{IsOccurrenceKey}
use Rattle.plan_basics.specs.declared.keys.OccKey.{OccKey}
use Rattle.plan_basics.specs.declared.keys.OpKey.{OpKey}
use Rattle.plan_basics.specs.declared.limits.TheConstants.{GREATEST_NUMBER, LEAST_NUMBER}
use Rattle.plan_reasons.specs.plan_drafts.specs.plan_items.proofs.NumeralLaws.{own}
use Rattle.plan_shows.specs.Typed.{IsTypedBy, IsTypedNumber, IsTypedOperation, TellsNumber}

-- digits are text
pub text_of_number : (t : List ℕ) → IsTypedNumber t → IsUtf8 t
text_of_number t is = IsUtf8-from_ascii t (IsAscii-from_digits t (own.to t is.digits))

-- what is read of them
pub told : {E : Type 0} (t : List ℕ) (r : Result ℕ E) → IsTypedNumber t → ParsesUnsigned 16 10 t r → MatchOption (result_ok r) ((n : ℕ) → ¬ TellsNumber t n) (TellsNumber t)
told {E = E} t r is parses =
    let small : digits_value 10 t < 2 ^ 16 = omega (arith, digits_value_short own t 3 is.digits is.short) in
    let read : r ≡ Ok (digits_value 10 t) = parse_gives own {E = E} 16 t r parses is.digits is.some small in
    subst (λ (s : Result ℕ E). MatchOption (result_ok s) ((n : ℕ) → ¬ TellsNumber t n) (TellsNumber t)) (sym read) (is, refl)

module _ (width : ℕ) (text front back : List ℕ) (split : IsSplit width text front back) where
  -- what is typed so has these parts
  pub parts_of : (o : OpKey) → IsTypedBy width text o → ((c : OccKey) × IsOccurrenceKey c × IsOccurrenceText front c) × TellsNumber back o.number
  parts_of o (range, (number, tells, other)) =
      let same = one_split width text (occurrence_text o.occurrence) number front back other split in
      ((o.occurrence, range.0, (range.0.1, sym same.0)), subst (λ (t : List ℕ). TellsNumber t o.number) same.1 tells)

  -- and of these parts it is made
  pub made_of : (c : OccKey) (n : ℕ) → IsOccurrenceKey c × IsOccurrenceText front c → LEAST_NUMBER ≤ n → n ≤ GREATEST_NUMBER → TellsNumber back n → IsTypedBy width text (record { occurrence = c; number = n })
  made_of c n (key, is) low high tells = ((key, low, high), (back, tells, (split.0, split.1 ∙ ap (λ (f : List ℕ). f ++ 47 ∷ [] ++ back) is.1)))

-- digits tell one number
pub one_told : (t : List ℕ) (m n : ℕ) → TellsNumber t m → TellsNumber t n → m ≡ n
one_told t m n first second = first.1 ∙ sym second.1

-- it is typed, with however many digits
pub typed_so : (width : ℕ) (text : List ℕ) (o : OpKey) → IsTypedBy width text o → IsTypedOperation text o
typed_so width text o (range, (number, tells, split)) = (range, (number, tells, split.1))

module _ (text : List ℕ) (not_by_three : (o : OpKey) → ¬ IsTypedBy 3 text o) (not_by_two : (o : OpKey) → ¬ IsTypedBy 2 text o) where
  by_one : (o : OpKey) → IsTypedOperation text o → IsTypedBy 1 text o
  by_one o (range, (number, tells, e)) = elim (cases_lt (length number) 2) [
    | inl one ↦ (range, (number, tells, (omega (arith, one, tells.0.some), e)))
    | inr more ↦ elim (cases_lt (length number) 3) [
      | inl two ↦ absurd (not_by_two o (range, (number, tells, (omega (arith, two, more), e))))
      | inr three ↦ absurd (not_by_three o (range, (number, tells, (omega (arith, three, tells.0.short), e))))
    ]
  ]

  -- what isn't typed with three digits or two is with one, or not at all
  pub typed_at_last : (found : Option OpKey) → MatchOption found ((o : OpKey) → ¬ IsTypedBy 1 text o) (IsTypedBy 1 text) → MatchOption found ((o : OpKey) → ¬ IsTypedOperation text o) (IsTypedOperation text)
  typed_at_last None none = λ o is. none o (by_one o is)
  typed_at_last (Some o) is = typed_so 1 text o is
