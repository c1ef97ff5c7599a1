use Rattle.text_faults.proofs.additions.judging.is_judged.Goals as goal

pub returns-in-Undefined : goal.returns-in-Undefined
returns-in-Undefined c = rw c.in-Undefined.is (c.is_name_judged.ensures c.args.added)
