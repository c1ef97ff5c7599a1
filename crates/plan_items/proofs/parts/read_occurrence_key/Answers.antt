use Rattle.plan_items.proofs.parts.read_occurrence_key.Goals as goal

pub returns-in_err-arrival : goal.returns-in_err-arrival
returns-in_err-arrival c = rw c.from_residual-in_err-arrival.ensures (λ key h. c.in_err-arrival.ensures key.arrival h.2)
