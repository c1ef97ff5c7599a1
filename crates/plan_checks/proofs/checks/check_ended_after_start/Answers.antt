use Rattle.std.proofs.Common.{sym, ◌∙◌}
use Rattle.plan_checks.proofs.Permitting.{ended_after_start}
use Rattle.plan_checks.proofs.checks.check_ended_after_start.Goals as goal

pub returns-then-holds_server-clause-ok : goal.returns-then-holds_server-clause-ok
returns-then-holds_server-clause-ok c = ended_after_start c.args.reported.now (sym c.holds_server.ensures ∙ c.if-holds_server.true) c.requires
