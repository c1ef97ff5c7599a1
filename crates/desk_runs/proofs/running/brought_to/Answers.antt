use Rattle.desk_runs.proofs.running.brought_to.Goals as goal

pub returns-clause-followed : goal.returns-clause-followed
returns-clause-followed g c = rw c.plan-2.ensures.plan at (c.in_ok-follow.ensures.followed c.args.desk.now.plan c.requires.known)
