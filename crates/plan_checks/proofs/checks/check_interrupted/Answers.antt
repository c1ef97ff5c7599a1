use Rattle.std.proofs.Common.{rules}
use Rattle.plan_checks.proofs.Permitting.{interrupted, not_interrupted}
use Rattle.plan_checks.proofs.checks.check_interrupted.Goals as goal

pub returns-then-ne-2-clause-refused : goal.returns-then-ne-2-clause-refused
returns-then-ne-2-clause-refused c = not_interrupted c.args.reported.now (search rules) (search rules)

pub returns-else-ne-2-clause-ok : goal.returns-else-ne-2-clause-ok
returns-else-ne-2-clause-ok c = interrupted c.args.reported.now (search rules) (search rules)
