use Rattle.std.proofs.Common.{◌≡◌, sym, ap, subst}
use Rattle.plan_model.specs.Plan.{Plan, IsSoundPlan, plan_held}
use Rattle.plan_records.specs.Answer.{accepted}
use Rattle.plan_records.specs.Step.{Step}
use Rattle.plan_core.proofs.Seen.{seen_sound}
use Rattle.plan_core.proofs.Provided.{step_sound, step_starts}
use Rattle.plan_core.proofs.Seen.{is_after}
use Rattle.plan_core.proofs.plan.Plan.apply.Goals as goal
use Rattle.plan_core.proofs.plan.Plan.apply.Goals.{After-put}
use Rattle.plan_core.specs.State.{PreparedState, plan_after}

-- what is put there is what the request leads to
led : (c : After-put) → plan_held c.prepared.inside.clock c.put.new.loaded ≡ plan_after c.args.self.now c.args.prepared
led c =
    let new = c.prepared.inside in
    is_after c.self.inside.clock c.self.inside.loaded c.put.new.loaded c.args.self.now (record { clock = new.clock; next = new.next; named = new.named.items; rows = new.changes.rows.items; gone = new.changes.gone.items; work = new.work }) c.args.prepared
    c.deref.result.now c.self.view_is c.prepared.view_is c.deref.ensures.value (c.put.ensures c.self.inside.clock)

-- a step leads there
step : (c : After-put) → Step c.args.self.now.plan c.requires.request (accepted c.prepared.inside.named.items) (plan_held c.prepared.inside.clock c.put.new.loaded)
step c =
    let P = c.args.self.now.plan in
    let q = c.requires.request in
    subst (λ os. Step P q (accepted os) (plan_held c.prepared.inside.clock c.put.new.loaded)) (sym (ap (λ (p : PreparedState). p.named) c.prepared.view_is))
    (subst (λ (Q : Plan). Step P q (accepted c.args.prepared.named) Q) (sym (led c)) c.requires.by.step)

sound : (c : After-put) → IsSoundPlan (plan_held c.prepared.inside.clock c.put.new.loaded)
sound c =
    step_sound c.args.self.now.plan (plan_held c.prepared.inside.clock c.put.new.loaded) c.requires.request (accepted c.prepared.inside.named.items)
    (seen_sound c.self.inside.clock c.self.inside.loaded c.args.self.now c.self.invariant c.self.view_is) (step c)

pub invariant_of-self : goal.invariant_of-self
invariant_of-self c = sound (goal.at.invariant_of-self c).After-put

pub returns-clause-sound : goal.returns-clause-sound
returns-clause-sound c = sound (goal.at.returns-clause-sound c).After-put

pub returns-clause-starts : goal.returns-clause-starts
returns-clause-starts c =
    let a = (goal.at.returns-clause-starts c).After-put in (
      c.requires.request,
      step a,
      step_starts c.args.self.now.plan (plan_held c.prepared.inside.clock c.put.new.loaded) c.requires.request (accepted c.prepared.inside.named.items)
          (seen_sound c.self.inside.clock c.self.inside.loaded c.args.self.now c.self.invariant c.self.view_is) (step a),
    )
