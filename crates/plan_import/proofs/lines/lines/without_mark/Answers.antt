use Rattle.std.proofs.Common.{◌∙◌}
use Rattle.plan_import.proofs.Marks.{stripped, kept}
use Rattle.plan_import.proofs.lines.lines.without_mark.Goals as goal

pub returns-in-Some : goal.returns-in-Some
returns-in-Some c =
    let found = rw c.in-Some.is at c.strip_prefix.ensures.cases in
    found.1 ∙ stripped c.args.text.now found.0

pub returns-in-None : goal.returns-in-None
returns-in-None c = kept c.args.text.now (rw c.in-None.is at c.strip_prefix.ensures.cases)
