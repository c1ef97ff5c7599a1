-- The text of an operation's key has no blank.
use Rattle.std.proofs.Common.{◌≡◌, ℕ, ◌+◌, ◌-◌, ◌%◌, ◌^◌, ◌<◌, List, [], ◌∷◌, ◌++◌, All, codes, false, true≢false, eqb, sym, subst, refl, arith, replicate, length, ℤ, pos}
use Rattle.std.specs.Fmt.{decimal}
use Rattle.std.proofs.lemmas.Bool.{eqb-true, false_from_ne_true}
use Rattle.std.proofs.lemmas.Fmt.{decimal_by_steps}
use Rattle.std.proofs.lemmas.List.Elements.{All-append, All-cons, All-nil, All-push, All-replicate, All-weaker}
use Rattle.plan_basics.specs.declared.keys.OpKey.{OpKey}
use Rattle.plan_basics.specs.Digits.{digits}
use Rattle.plan_basics.specs.Keys.{IsOperationKey}
use Rattle.plan_basics.specs.KeyTexts.{occurrence_text, operation_text}
use Rattle.plan_basics.specs.Minutes.{IsMinuteText, IsMoment}
use Rattle.plan_basics.specs.MomentTexts.{moment_text}
use Rattle.plan_basics.specs.Names.{IsNameByte}
use Rattle.plan_basics.proofs.MinuteLaws.{short_of_civil}
use Rattle.plan_basics.proofs.MomentTexts.{text_of_moment}

-- any byte but the blank
abbrev pub IsNoBlank : ℕ → Type 0
IsNoBlank b = eqb b 32 ≡ false

other_byte : (b : ℕ) → (b ≡ 32 → ⊥) → IsNoBlank b
other_byte b apart = false_from_ne_true (eqb b 32) (λ e. apart (eqb-true b 32 e))

in_name : (b : ℕ) → IsNameByte b → IsNoBlank b
in_name b legal = other_byte b (λ e. true≢false (sym (subst IsNameByte e legal)))

in_decimal : (n : ℕ) → n < 2 ^ 64 → All IsNoBlank (decimal n)
in_decimal = decimal_by_steps (λ n ds. All IsNoBlank ds)
    (λ n small. All-cons IsNoBlank (48 + n) [] (other_byte (48 + n) (λ e. omega (arith, e))) (All-nil IsNoBlank))
    (λ n ds large all. All-push IsNoBlank ds (48 + n % 10) all (other_byte (48 + n % 10) (λ e. omega (arith, e))))

in_digits : (width n : ℕ) → n < 2 ^ 64 → All IsNoBlank (digits width n)
in_digits width n small =
    let zeros : List ℕ = replicate (width - length (decimal n)) 48 in
    All-append IsNoBlank zeros (decimal n) (All-replicate IsNoBlank (width - length (decimal n)) 48 refl) (in_decimal n small)

-- two texts with a mark between them
marked : (front : List ℕ) (mark : ℕ) (back : List ℕ) → All IsNoBlank front → IsNoBlank mark → All IsNoBlank back → All IsNoBlank (front ++ mark ∷ [] ++ back)
marked front mark back before none behind = All-append IsNoBlank (front ++ mark ∷ []) back (All-push IsNoBlank front mark before none) behind

in_minute : (t : List ℕ) (z : ℤ) → IsMinuteText t z → All IsNoBlank t
in_minute t z (y, m, d, h, n, old, date, hours, minutes, e, value) =
    let short = short_of_civil y m d h n old date hours minutes in
    let year = in_digits 4 y (omega arith) in
    let month = marked (digits 4 y) 45 (digits 2 m) year refl (in_digits 2 m (omega (arith, short.month))) in
    let day = marked (digits 4 y ++ codes "-" ++ digits 2 m) 45 (digits 2 d) month refl (in_digits 2 d (omega (arith, short.day))) in
    let hour = marked (digits 4 y ++ codes "-" ++ digits 2 m ++ codes "-" ++ digits 2 d) 84 (digits 2 h) day refl (in_digits 2 h (omega arith)) in
    rw e (marked (digits 4 y ++ codes "-" ++ digits 2 m ++ codes "-" ++ digits 2 d ++ codes "T" ++ digits 2 h) 58 (digits 2 n) hour refl (in_digits 2 n (omega arith)))

in_moment : (m : ℕ) → IsMoment m → All IsNoBlank (moment_text m)
in_moment m range = in_minute (moment_text m) (pos m) (text_of_moment m range).1

pub in_key : (k : OpKey) → IsOperationKey k → All IsNoBlank (operation_text k)
in_key k legal =
    let c = k.occurrence in
    let app = All-weaker IsNameByte IsNoBlank in_name c.app legal.0.0.2 in
    let small = legal.2 in
    marked (occurrence_text c) 47 (digits 3 k.number) (marked c.app 47 (moment_text c.arrival) app refl (in_moment c.arrival legal.0.1)) refl (in_digits 3 k.number (omega (arith, small)))
