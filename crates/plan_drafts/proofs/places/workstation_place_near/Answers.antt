use Rattle.plan_drafts.proofs.places.workstation_place_near.Goals as goal

pub returns-then-is_workstation_at-clause-found : goal.returns-then-is_workstation_at-clause-found
returns-then-is_workstation_at-clause-found c = c.is_workstation_at.ensures.0 c.if-is_workstation_at.true
