-- The step that a load into an empty plan takes.
use Rattle.std.proofs.Common.{◌≡◌, ◌⊎◌, inl, inr, refl, sym, ap, subst, ◌∙◌, ℕ, ℤ, pos, List, Option, Some}
use Rattle.plan_basics.specs.Refusals.{NoneRefuses}
use Rattle.plan_basics.specs.declared.Refusal.{Refusal}
use Rattle.plan_basics.specs.declared.Refusal.TheVariants as refusal
use Rattle.plan_basics.specs.declared.keys.OpKey.{OpKey}
use Rattle.request_outcomes.proofs.Preparing.{accepted_step}
use Rattle.plan_opening.specs.plan_laws.proofs.Running.{answered, plan_answers}
use Rattle.plan_records.specs.plan_drafts.specs.Drafts.{IsDraft}
use Rattle.plan_model.specs.Contents.{Contents}
use Rattle.plan_model.specs.Plan.{Plan, no_plan, plan_held}
use Rattle.plan_model.specs.Ready.{IsChosen, named}
use Rattle.request_outcomes.specs.Requested.{AreMadeBy}
use Rattle.plan_records.specs.Acceptance.{MayBeAccepted}
use Rattle.plan_records.specs.Answer.{Answer, accepted, refused}
use Rattle.plan_records.specs.Changes.{IsRequest}
use Rattle.plan_records.specs.Run.{State, empty_state, plain}
use Rattle.plan_records.specs.Step.{Step}
use Rattle.plan_records.specs.declared.What.TheVariants as what
use Rattle.plan_core.specs.Trials.{IsAnswerAlone, load_at}

-- what is chosen in the contents of a draft is named by an empty plan into which it is loaded
pub load_step :
    (at : ℤ) (draft : Option Contents) (m : ℕ) (D new : Contents) (os : List OpKey) → NoneRefuses (MayBeAccepted no_plan (load_at at draft)) → at ≡ pos m →
    draft ≡ Some D → IsDraft D → new ≡ D → IsChosen new m os → (P : Plan) × Step no_plan (load_at at draft) (accepted os) P
load_step at draft m D new os allows minute is legal same chosen =
    let made : AreMadeBy no_plan.contents (what.Load draft) new = record {
      is_request = subst (λ d. IsRequest (what.Load d)) (sym is) legal;
      changes = is ∙ ap Some (sym same);
    } in
    let after = plan_held m (Some (named os new)) in
    (after, accepted_step no_plan (load_at at draft) allows new made m minute after os chosen refl)

-- a step of an empty plan answers the first call
pub step_alone : (at : ℤ) (draft : Option Contents) (a : Answer) (P : Plan) → Step no_plan (load_at at draft) a P → IsAnswerAlone at draft a
step_alone at draft a P step =
    let t : State = record { plan = P; receipts = empty_state.receipts } in
    let load = plain (load_at at draft) in
    (t, answered empty_state t load a (plan_answers empty_state t load a (step, refl)) (step, refl))

-- so does want of memory, or an empty plan's refusal
pub refused_alone : (at : ℤ) (draft : Option Contents) (r : Refusal) → (r ≡ refusal.Memory) ⊎ Step no_plan (load_at at draft) (refused r) no_plan → IsAnswerAlone at draft (refused r)
refused_alone at draft r (inl memory) = subst (λ (x : Refusal). IsAnswerAlone at draft (refused x)) (sym memory) (empty_state, (refl, refl))
refused_alone at draft r (inr step) = step_alone at draft (refused r) no_plan step
