use Rattle.record_faults.proofs.PlainTexts.{text_of_plain, parsed}
use Rattle.record_faults.proofs.fields.plain_value.Goals as goal

pub returns-in-Err : goal.returns-in-Err
returns-in-Err c = absurd (c.in-Err.ensures.cases.0 (text_of_plain c.args.text.now c.requires))

pub returns-in-Ok : goal.returns-in-Ok
returns-in-Ok c = rw c.ok.ensures.value (parsed c.args.text.now c.parse.result c.requires (rw c.in-Ok.ensures.cases.0 at c.parse.ensures.value.0))
