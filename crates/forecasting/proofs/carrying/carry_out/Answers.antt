use Rattle.std.proofs.Common.{◌≡◌, ◌⊎◌, inl, inr, sym, ◌∙◌, ap, subst, arith, ℕ, List, pos, true}
use Rattle.plan_basics.specs.Minutes.{IsMoment}
use Rattle.plan_basics.specs.declared.Refusal.{Refusal}
use Rattle.plan_basics.specs.declared.Refusal.TheVariants as refusal
use Rattle.plan_core.specs.State.{PlanState, plan_after}
use Rattle.plan_model.specs.Plan.{IsSoundPlan, Plan}
use Rattle.plan_records.specs.Answer.{accepted, refused}
use Rattle.plan_records.specs.Step.{Step}
use Rattle.plan_records.specs.declared.Request.{Request}
use Rattle.plan_forecast.specs.Ahead.{Ahead}
use Rattle.plan_forecast.proofs.Accepted.{work_accepted}
use Rattle.forecasting.specs.Turns.{IsFirstWork}
use Rattle.forecasting.specs.Following.{AreTouched}
use Rattle.forecasting.proofs.Followed.{changed_places}
use Rattle.forecasting.proofs.Keeping.{step_like, work_asked}
use Rattle.plan_records.specs.Rows.{AreChanges}
use Rattle.plan_records.specs.declared.PlanRow.{PlanRow}
use Rattle.forecasting.proofs.carrying.carry_out.Goals as goal

-- what is done at the first moment with work isn't refused
only_memory : (P : Plan) (q : Request) (r : Refusal) → IsSoundPlan P
    → (s : Ahead) × (until : ℕ) × (x : ℕ) × (s.plan ≡ P) × (s.plan.loaded ≡ true) × IsMoment until × (q.at ≡ pos x) × IsFirstWork s until x q.what
    → (r ≡ refusal.Memory) ⊎ Step P q (refused r) P → r ≡ refusal.Memory
only_memory P q r sound first (inl memory) = memory
only_memory P q r sound (s, until, x, same, loaded, moment, at, first) (inr step) =
    let there : Step s.plan q (refused r) s.plan = subst (λ (Q : Plan). Step Q q (refused r) Q) (sym same) step in
    let named : Request = record { at = pos x; what = q.what } in
    let is : q ≡ named = λ i. record { at = at i; what = q.what } in
    let refused_so : Step s.plan named (refused r) s.plan = subst (λ z. Step s.plan z (refused r) s.plan) is there in
    absurd (refused_so.least.0 (work_accepted s x q.what (subst IsSoundPlan (sym same) sound) loaded first.from (let a = first.within in omega (arith, a, moment)) first.work r))

pub returns-in-Err-clause-memory : goal.returns-in-Err-clause-memory
returns-in-Err-clause-memory c = only_memory c.args.plan.now.plan c.args.request.now c.in-Err.refusal c.clock.ensures.sound c.requires c.in-Err.ensures.refused

pub returns-in_ok-places-in-Ok-clause-changed : goal.returns-in_ok-places-in-Ok-clause-changed
returns-in_ok-places-in-Ok-clause-changed c =
    let P = c.args.plan.now.plan in
    let Q = c.apply.new.self.plan in
    let request = c.args.request.now in
    let prepared = c.in-Ok.prepared in
    let places = c.in_ok-places-in-Ok.places.items in
    let after : Q ≡ plan_after c.args.plan.now prepared = c.apply.ensures.plan ∙ ap (λ (p : PlanState). plan_after p prepared) c.prepare.ensures.unchanged in
    let step : Step P request (accepted prepared.named) Q = subst (λ (X : Plan). Step P request (accepted prepared.named) X) (sym after) c.in-Ok.ensures.step in
    let like = step_like P Q request prepared.named (work_asked c.requires.0 c.requires.2 request.what c.requires.7.work) step in
    let changes : AreChanges P Q prepared.rows prepared.gone = subst (λ (X : Plan). AreChanges P X prepared.rows prepared.gone) (sym after) c.in-Ok.ensures.changes in
    let touched : AreTouched P.contents prepared.rows places = subst (λ (rows : List PlanRow). AreTouched P.contents rows places) c.changes.ensures.rows
    (subst (λ (X : PlanState). AreTouched X.plan.contents c.changes.result.now.rows.items places) c.prepare.ensures.unchanged c.in_ok-places-in-Ok.ensures) in
    changed_places P Q c.clock.ensures.sound c.apply.ensures.sound prepared.rows prepared.gone changes like places touched

pub returns-in_ok-places-in-Ok-clause-step : goal.returns-in_ok-places-in-Ok-clause-step
returns-in_ok-places-in-Ok-clause-step c =
    let P = c.args.plan.now.plan in
    let prepared = c.in-Ok.prepared in
    let after : c.apply.new.self.plan ≡ plan_after c.args.plan.now prepared = c.apply.ensures.plan ∙ ap (λ (p : PlanState). plan_after p prepared) c.prepare.ensures.unchanged in
    (prepared.named, subst (λ (Q : Plan). Step P c.args.request.now (accepted prepared.named) Q) (sym after) c.in-Ok.ensures.step)
