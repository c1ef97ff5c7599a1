use Rattle.std.proofs.Common.{rules}
use Rattle.extension_faults.proofs.judging.refusal_to.Goals as goal
use Rattle.extension_faults.proofs.judging.refusal_to.Goals.{in-Ok, in-Err-Memory, in-Err}

pub returns : goal.returns
returns c =
    elim c.match-prepare.branch [
      | in-Ok w ↦ rw w.result-is (w.in-Ok.field-0.named, _, w.in-Ok.ensures.step)
      | in-Err-Memory w ↦ rw w.result-is tt
      | in-Err w ↦ rw w.result-is (search rules)
    ]
