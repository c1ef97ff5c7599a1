use Rattle.std.proofs.Common.{rules}
use Rattle.plan_checks.proofs.Permitting.{undecided}
use Rattle.plan_checks.proofs.checks.check_undecided.Goals as goal

pub returns-then-eq-clause-ok : goal.returns-then-eq-clause-ok
returns-then-eq-clause-ok c = undecided c.args.reported.now (search rules)
