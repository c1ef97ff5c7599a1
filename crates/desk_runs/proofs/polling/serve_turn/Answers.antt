use Rattle.std.proofs.Common.{rules}
use Rattle.desk_runs.proofs.Faults.{of_three, usable_or_file}
use Rattle.desk_runs.proofs.polling.serve_turn.Goals as goal

pub returns-in_err-told-clause-usable : goal.returns-in_err-told-clause-usable
returns-in_err-told-clause-usable g c =
    usable_or_file c.args.desk.now.is_usable c.serve_events.new.desk.is_usable c.from_residual.result c.from_residual.ensures.0 (search rules)

pub returns-in_err-told-clause-fault : goal.returns-in_err-told-clause-fault
returns-in_err-told-clause-fault g c =
    of_three c.args.desk.now.is_usable c.serve_events.new.desk.is_usable c.from_residual.result (search rules)
