use Rattle.std.proofs.Common.{rules}
use Rattle.plan_checks.proofs.ByCommand.{completed, held_at_completion, not_completed}
use Rattle.plan_checks.proofs.commands.check_completed.Goals as goal

pub returns-then-not-is_completable-clause-refused : goal.returns-then-not-is_completable-clause-refused
returns-then-not-is_completable-clause-refused c = not_completed c.args.reported.now (search rules)

pub returns-then-operation-clause-refused : goal.returns-then-operation-clause-refused
returns-then-operation-clause-refused c = held_at_completion c.args.reported.now (search rules) (search rules)

pub returns-else-operation-clause-ok : goal.returns-else-operation-clause-ok
returns-else-operation-clause-ok c = completed c.args.reported.now (search rules) (search rules)
