use Rattle.desk_runs.proofs.polling.serve_readable.Goals as goal

pub returns-clause-followed : goal.returns-clause-followed
returns-clause-followed g c = rw c.plan.ensures.plan at (c.in_ok-follow.ensures.followed c.args.desk.now.plan c.requires.known)
