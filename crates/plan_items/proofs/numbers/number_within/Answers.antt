use Rattle.std.proofs.Common.{sym, arith, ◌∙◌}
use Rattle.std.proofs.lemmas.Fmt.{decimal_injective}
use Rattle.plan_items.proofs.numbers.number_within.Goals as goal

-- a text is that of one number alone, and this one is below the least
pub returns-in_default : goal.returns-in_default
returns-in_default c = λ n h. omega (arith, h.0.0, h.0.1, c.in-Some.ensures.value.0, decimal_injective c.in-Some.number n (omega (arith, c.in-Some.ensures.value.0)) (omega (arith, h.0.1)) (sym c.in-Some.ensures.value.1 ∙ h.1))
