use Rattle.plan_outlooks.proofs.paths.begin_at.Goals as goal

pub returns : goal.returns
returns c = c.beginning_of.ensures
