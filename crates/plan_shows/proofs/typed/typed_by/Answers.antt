use Rattle.std.proofs.Common.{arith}
use Rattle.plan_basics.specs.KeyTexts.{occurrence_text}
use Rattle.plan_shows.proofs.TypedKeys.{made_of, one_told, parts_of}
use Rattle.plan_shows.proofs.typed.typed_by.Goals as goal

pub returns-in_err-front : goal.returns-in_err-front
returns-in_err-front c = rw c.from_residual.ensures (λ o typed. absurd (cc (c.in_err-front.ensures.some.1 (occurrence_text o.occurrence, typed.1.0, typed.1.2))))

pub returns-in_err-occurrence : goal.returns-in_err-occurrence
returns-in_err-occurrence c =
    let parts = parts_of c.args.width c.args.text.now c.in_ok-front.front.now c.in_ok-front.back.now c.in_ok-front.ensures.value in
    rw c.from_residual-in_err-occurrence.ensures (λ o typed. absurd (cc (c.in_err-occurrence.ensures.some.1 (parts o typed).0)))

pub returns-in_err-number : goal.returns-in_err-number
returns-in_err-number c =
    let parts = parts_of c.args.width c.args.text.now c.in_ok-front.front.now c.in_ok-front.back.now c.in_ok-front.ensures.value in
    rw c.from_residual-in_err-number.ensures (λ o typed. c.in_err-number.ensures o.number (parts o typed).1)

pub returns-then-number : goal.returns-then-number
returns-then-number c = λ o typed.
    let parts = parts_of c.args.width c.args.text.now c.in_ok-front.front.now c.in_ok-front.back.now c.in_ok-front.ensures.value o typed in
    let same = one_told c.in_ok-front.back.now o.number c.in_ok-number.number parts.1 c.in_ok-number.ensures in
    let low = typed.0.1 in
    let high = typed.0.2 in
    omega (arith, same, low, high)

pub returns : goal.returns
returns c =
    made_of c.args.width c.args.text.now c.in_ok-front.front.now c.in_ok-front.back.now c.in_ok-front.ensures.value c.in_ok-occurrence.occurrence c.in_ok-number.number c.in_ok-occurrence.ensures.value (omega arith) (omega arith)
    c.in_ok-number.ensures
