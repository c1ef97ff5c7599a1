use Rattle.std.proofs.Common.{rules}
use Rattle.plan_checks.proofs.Permitting.{ended_without_start, held_at_end}
use Rattle.plan_checks.proofs.checks.check_ended_without_start.Goals as goal

pub returns-then-operation-clause-refused : goal.returns-then-operation-clause-refused
returns-then-operation-clause-refused c = held_at_end c.args.reported.now c.requires (search rules) (search rules)

pub returns-else-operation-clause-ok : goal.returns-else-operation-clause-ok
returns-else-operation-clause-ok c = ended_without_start c.args.reported.now c.requires (search rules) (search rules)
