use Rattle.std.proofs.Common.{◌∙◌, ap, sym, ℕ, ◌<◌, ◌^◌, List, arith, refl}
use Rattle.std.specs.Fmt.{decimal}
use Rattle.std.specs.Str.Parse.{digits_value}
use Rattle.std.proofs.lemmas.Bool.{false≢true}
use Rattle.plan_items.proofs.NumeralLaws.{plain_decimal, decimal_of_plain}
use Rattle.record_faults.proofs.fields.is_number_within.Goals as goal

pub returns-then-not-is_plain : goal.returns-then-not-is_plain
returns-then-not-is_plain c = (λ e. absurd (false≢true e), λ w. let p = plain_decimal c.args.text.now w.0 (omega (arith, w.1.0.1)) w.1.1 in let h = c.is_plain.ensures.1 p.0 in absurd (cc))

pub returns-in-Some : goal.returns-in-Some
returns-in-Some c =
    let t : List ℕ = c.args.text.now in
    let small : digits_value 10 t < 2 ^ 64 = omega (arith, c.in-Some.ensures) in
    let shown = decimal_of_plain t (c.if-not-is_plain.ensures.0 refl) small ∙ ap decimal (sym c.in-Some.ensures) in
    (λ _. (c.in-Some.value, ((c.if-value-least.true, c.if-value-most.true), shown)), λ _. refl)

pub returns-in_default : goal.returns-in_default
returns-in_default c = (λ e. absurd (false≢true e), λ w. let p = plain_decimal c.args.text.now w.0 (omega (arith, w.1.0.1)) w.1.1 in absurd (omega (arith, p.1, c.in-Some.ensures, w.1.0.1, c.if-value-most.false)))

pub returns-in_default-2 : goal.returns-in_default-2
returns-in_default-2 c = (λ e. absurd (false≢true e), λ w. let p = plain_decimal c.args.text.now w.0 (omega (arith, w.1.0.1)) w.1.1 in absurd (omega (arith, p.1, c.in-Some.ensures, w.1.0.0, c.if-value-least.false)))

pub returns-in_default-3 : goal.returns-in_default-3
returns-in_default-3 c = (λ e. absurd (false≢true e), λ w. let p = plain_decimal c.args.text.now w.0 (omega (arith, w.1.0.1)) w.1.1 in absurd (omega (arith, p.1, c.in_default.ensures, w.1.0.1)))
