use Rattle.desk_serving.proofs.judging.judged_brought.Goals as goal

pub returns-in-Addition : goal.returns-in-Addition
returns-in-Addition c = rw c.in-Addition.is (rw c.as_bytes.ensures.value at c.judged_text.ensures)

pub returns-in-Extension : goal.returns-in-Extension
returns-in-Extension c = rw c.in-Extension.is (rw c.as_bytes-in-Extension.ensures.value at c.judged_text-in-Extension.ensures)
