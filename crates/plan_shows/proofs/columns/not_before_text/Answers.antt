use Rattle.std.proofs.Common.{◌≡◌, ◌<◌, ◌∙◌, arith}
use Rattle.std.proofs.lemmas.Int.{ints}
use Rattle.plan_shows.proofs.NotBefore.{first_minute, later_minute}
use Rattle.plan_shows.proofs.columns.not_before_text.Goals as goal

pub returns-then-minute-eq0 : goal.returns-then-minute-eq0
returns-then-minute-eq0 c =
    let value = c.minute.ensures.value in
    let test = c.if-minute-eq0.true in
    let first : c.args.moment ≡ 0 = omega (arith, ints, value, test) in
    first_minute c.args.moment first

pub returns-else-minute-eq0 : goal.returns-else-minute-eq0
returns-else-minute-eq0 c =
    let value = c.minute.ensures.value in
    let test = c.if-minute-eq0.false in
    let later : 0 < c.args.moment = omega (arith, ints, value, test) in
    c.moment_text.ensures ∙ later_minute c.args.moment later
