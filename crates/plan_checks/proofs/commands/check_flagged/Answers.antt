use Rattle.std.proofs.Common.{rules}
use Rattle.plan_checks.proofs.ByCommand.{flagged, not_flagged}
use Rattle.plan_checks.proofs.commands.check_flagged.Goals as goal

pub returns-then-is_waiting_or_ready-clause-ok : goal.returns-then-is_waiting_or_ready-clause-ok
returns-then-is_waiting_or_ready-clause-ok c = flagged c.args.reported.now (search rules)

pub returns-else-is_waiting_or_ready-clause-refused : goal.returns-else-is_waiting_or_ready-clause-refused
returns-else-is_waiting_or_ready-clause-refused c = not_flagged c.args.reported.now (search rules)
