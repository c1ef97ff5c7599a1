use Rattle.std.proofs.Common.{rules}
use Rattle.http_messages.specs.Fields.{IsLengthText}
use Rattle.http_messages.proofs.Texts.{text_of_length, told}
use Rattle.http_messages.proofs.fields.length_of.Goals as goal

pub returns-in_default : goal.returns-in_default
returns-in_default c = λ n tells. c.in_default.ensures.cases.0 (text_of_length c.args.value.now tells.0)

pub returns : goal.returns
returns c =
    let good : IsLengthText c.args.value.now = search rules in
    rw c.ok.ensures.value (told c.args.value.now c.parse.result good (rw c.in-Ok.ensures.cases.0 at c.parse.ensures.value.0))
