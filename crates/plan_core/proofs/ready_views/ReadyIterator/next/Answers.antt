use Rattle.std.proofs.Common.{◌≡◌, ◌∷◌, sym, ◌∙◌}
use Rattle.std.proofs.lemmas.List.Elements.{All-rest}
use Rattle.plan_model.specs.Contents.{IsInPlan}
use Rattle.plan_core.proofs.FromPlace.{fewer}
use Rattle.plan_core.proofs.ReadyViews.{one_ready, view_is}
use Rattle.plan_core.specs.Views.{ready_views}
use Rattle.plan_core.proofs.ready_views.ReadyIterator.next.Goals as goal

pub invariant_of-self-2 : goal.invariant_of-self-2
invariant_of-self-2 c = (c.self.invariant.0, All-rest (λ e. IsInPlan c.self.inside.source.contents.now e.key.op) c.in_ok-entry.entry.now c.next.new.self c.self.inside.entries c.in_ok-entry.ensures.steps c.self.invariant.1)

rest_is : (c : goal.After-op_view) → c.args.self.now ≡ c.op_view.result ∷ ready_views c.self.inside.source c.next.new.self
rest_is c =
    let s = c.self.inside.source in
    let place = c.known_operation_place-row.result in
    let at = c.known_operation_place-row.ensures.at in
    sym c.self.view_is ∙ one_ready s c.self.invariant.0 c.in_ok-entry.ensures.steps (view_is s c.self.invariant.0 place c.in_ok-entry.entry.now.key.op at.0 c.op_view.result at.1 c.op_view.ensures)

pub returns-clause-steps : goal.returns-clause-steps
returns-clause-steps c = rest_is c

pub returns-clause-goes : goal.returns-clause-goes
returns-clause-goes c = record { on = λ finite. (tt, tt, fewer (rest_is c)); keeps = tt; rests = λ finite. tt }
