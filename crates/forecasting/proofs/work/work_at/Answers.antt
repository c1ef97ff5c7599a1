use Rattle.forecasting.proofs.work.work_at.Goals as goal

pub returns-in-None : goal.returns-in-None
returns-in-None c = λ s same times. c.start_at.ensures s same (c.in-None.ensures s same times)
