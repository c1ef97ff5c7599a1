use Rattle.std.proofs.Common.{refl, None}
use Rattle.http_messages.specs.declared.asking.Asked.TheVariants as asked
use Rattle.desk_runs.proofs.ticks.tick.Goals as goal

pub returns-in-Ok-Answer-clause-ticked : goal.returns-in-Ok-Answer-clause-ticked
returns-in-Ok-Answer-clause-ticked g c =
    let ends = rw c.in-Ok-Answer.field-0-is at c.in-Ok-Answer.ensures.journals in
    (record { asked = asked.Operator c.in_ok-body.body; by = None }, (c.in_ok-body.ensures.body, refl), c.in-Ok.reading, c.in-Ok.ensures.reading, ends.0, ends.1)
