use Rattle.std.proofs.Common.{IfOk}
use Rattle.plan_opening.specs.plan_changes.proofs.Answered.{if_ok}
use Rattle.plan_core.proofs.Seen.{seen_prepared}
use Rattle.plan_core.proofs.Provided.{step_sound, step_starts}
use Rattle.plan_core.proofs.plan.Plan.prepare.Goals as goal
use Rattle.plan_core.proofs.plan.Plan.prepare.Goals.{After-prepare_in-loaded}
use Rattle.plan_core.specs.Prepares.{IsPreparedIn}
use Rattle.plan_core.specs.State.{plan_after}
use Rattle.plan_records.specs.Answer.{accepted}

-- it was prepared for the plan that callers see
led : (c : After-prepare_in-loaded) → IfOk c.prepare_in-loaded.result.1 (IsPreparedIn c.args.self.now.plan c.args.request.now)
led c =
    seen_prepared c.self.inside.clock c.self.inside.loaded c.take.result c.args.self.now c.take.ensures.value c.self.view_is c.args.request.now c.prepare_in-loaded.result.1
    c.prepare_in-loaded.ensures.prepared

pub returns-clause-step : goal.returns-clause-step
returns-clause-step c = if_ok c.prepare_in-loaded.result.1 (λ p of. of.by.step) (led (goal.at.returns-clause-step c).After-prepare_in-loaded)

pub returns-clause-sound : goal.returns-clause-sound
returns-clause-sound c =
    let s = c.args.self.now in
    if_ok c.prepare_in-loaded.result.1 (λ p of. step_sound s.plan (plan_after s p) c.args.request.now (accepted p.named) c.read_for_proof.ensures of.by.step) (led (goal.at.returns-clause-sound c).After-prepare_in-loaded)

pub returns-clause-starts : goal.returns-clause-starts
returns-clause-starts c =
    let s = c.args.self.now in
    if_ok c.prepare_in-loaded.result.1 (λ p of. step_starts s.plan (plan_after s p) c.args.request.now (accepted p.named) c.read_for_proof.ensures of.by.step) (led (goal.at.returns-clause-starts c).After-prepare_in-loaded)

pub returns-clause-most : goal.returns-clause-most
returns-clause-most c = if_ok c.prepare_in-loaded.result.1 (λ p of. of.looks.allowed) (led (goal.at.returns-clause-most c).After-prepare_in-loaded)

pub returns-clause-fewest : goal.returns-clause-fewest
returns-clause-fewest c = if_ok c.prepare_in-loaded.result.1 (λ p of. of.looks.cover) (led (goal.at.returns-clause-fewest c).After-prepare_in-loaded)
