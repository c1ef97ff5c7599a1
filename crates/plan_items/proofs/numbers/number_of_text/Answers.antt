use Rattle.std.proofs.Common.{◌≡◌, ℕ, ◌<◌, ◌^◌, List, arith, refl}
use Rattle.std.specs.Fmt.{decimal}
use Rattle.std.specs.Str.Parse.{digits_value}
use Rattle.std.proofs.lemmas.Bool.{false≢true}
use Rattle.plan_items.proofs.NumeralLaws.{plain_decimal, decimal_of_plain}
use Rattle.plan_items.proofs.numbers.number_of_text.Goals as goal

pub returns-then-not-is_numeral-clause-some : goal.returns-then-not-is_numeral-clause-some
returns-then-not-is_numeral-clause-some c = (λ e. absurd (false≢true e), λ w. let p = plain_decimal c.args.text.now w.0 (omega (arith, w.1)) w.2 in let h = c.is_numeral.ensures.1 p.0 in absurd (cc))

value_is : goal.Then-number-most → Type 0
value_is c = c.args.text.now ≡ decimal c.in-Some.number

value_shown : (c : goal.Then-number-most) → value_is c
unfolding value_is
value_shown c =
    let t : List ℕ = c.args.text.now in
    let small : digits_value 10 t < 2 ^ 64 = omega (arith, c.in-Some.ensures) in
    let shown = decimal_of_plain t (c.if-not-is_numeral.ensures.0 refl) small in
    rw c.in-Some.ensures shown

pub returns-in-Some-clause-some : goal.returns-in-Some-clause-some
unfolding value_is
returns-in-Some-clause-some c = (λ _. (c.in-Some.number, c.if-number-most.true, value_shown c), λ _. refl)

pub returns-in-Some-clause-value : goal.returns-in-Some-clause-value
unfolding value_is
returns-in-Some-clause-value c = (c.if-number-most.true, value_shown c)

pub returns-in_default-clause-some : goal.returns-in_default-clause-some
returns-in_default-clause-some c = (λ e. absurd (false≢true e), λ w. let p = plain_decimal c.args.text.now w.0 (omega (arith, w.1)) w.2 in absurd (omega (arith, p.1, c.in-Some.ensures, w.1)))

pub returns-in_default-2-clause-some : goal.returns-in_default-2-clause-some
returns-in_default-2-clause-some c = (λ e. absurd (false≢true e), λ w. let p = plain_decimal c.args.text.now w.0 (omega (arith, w.1)) w.2 in absurd (omega (arith, p.1, c.in_default.ensures, w.1)))
