use Rattle.std.proofs.Common.{rules}
use Rattle.plan_shows.specs.Typed.{IsTypedNumber}
use Rattle.plan_shows.proofs.TypedKeys.{text_of_number, told}
use Rattle.plan_shows.proofs.typed.number_told.Goals as goal

pub returns-in_default : goal.returns-in_default
returns-in_default c = λ n tells. c.in_default.ensures.cases.0 (text_of_number c.args.text.now tells.0)

pub returns : goal.returns
returns c =
    let good : IsTypedNumber c.args.text.now = search rules in
    rw c.ok.ensures.value (told c.args.text.now c.parse.result good (rw c.in-Ok.ensures.cases.0 at c.parse.ensures.value.0))
