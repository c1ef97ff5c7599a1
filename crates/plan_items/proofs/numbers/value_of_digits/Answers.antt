use Rattle.std.proofs.Common.{arith, ◌+◌, ◌-◌, ◌*◌, drop, get_or}
use Rattle.std.proofs.lemmas.List.{get_or_default}
use Rattle.plan_items.proofs.NumeralLaws.{digit_more, no_less}
use Rattle.plan_items.proofs.numbers.value_of_digits.Goals as goal

pub returns-then-value-gt4294967295 : goal.returns-then-value-gt4294967295
returns-then-value-gt4294967295 c =
    let ds = c.args.digits.now in
    let i = c.loop-digit.digit-index in
    let n = c.loop-digit.value in
    let d = get_or ds i 0 in
    let h = c.loop-digit.invariant in
    let step = digit_more ds i n d c.loop-digit-test.true c.requires.digits (get_or_default ds i 0 d c.loop-digit-test.true) in
    let least = no_less (n * 10 + (d - 48)) (drop (i + 1) ds) in
    let digit = c.requires.digits i 0 c.loop-digit-test.true in
    omega (arith, h.1, step, least, digit.0, c.from.ensures, c.if-value-gt4294967295.true)
