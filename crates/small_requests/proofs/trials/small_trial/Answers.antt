use Rattle.std.proofs.Common.{◌≡◌, subst, ℕ, Ok, IfOk}
use Rattle.std.specs.Prelude.{Result}
use Rattle.plan_basics.specs.declared.Refusal.{Refusal}
use Rattle.plan_checks.specs.derived_figures.specs.Figures.{KeepsFrame}
use Rattle.plan_model.specs.Contents.{Contents}
use Rattle.plan_model.specs.Ready.{IsChosen, named}
use Rattle.plan_rows.specs.Notes.{operations_noted}
use Rattle.small_requests.specs.Edits.{edited}
use Rattle.small_requests.specs.Naming.{AreStepNotes}
use Rattle.small_requests.specs.FigureChanges.{IsFigureChange}
use Rattle.small_requests.specs.StepLooks.{IsStepLooked}
use Rattle.small_requests.specs.Trials.{IsStepBy, contents_then}
use Rattle.small_requests.specs.declared.edits.Edit.{Edit}
use Rattle.small_requests.specs.declared.named_steps.SmallStep.{SmallStep}
use Rattle.small_requests.proofs.trials.small_trial.Goals as goal

-- a step as it was made, of contents that are those of the plan
module _ {Q P : Contents} (same : Q ≡ P) {r : Result SmallStep Refusal} {s : SmallStep} (is : r ≡ Ok s) (m : ℕ) (e : Edit) where
  at_plan : (of : Contents → SmallStep → Type 0) → IfOk r (of Q) → of P s
  at_plan of holds = subst (λ (x : Contents). of x s) same (subst (λ (x : Result SmallStep Refusal). IfOk x (of Q)) is holds)

pub returns-in-Ok-step-clause-trial : goal.returns-in-Ok-step-clause-trial
returns-in-Ok-step-clause-trial c =
    let edit = c.in-Ok.ensures in
    let step = c.small_step-records.ensures in
    let same = c.edit_of.ensures.contents in
    let is = c.in-Ok-step.is in
    let m = c.args.context.now.at in
    let e = c.in-Ok.edit in
    let before = c.edit_of.new.records.looks in
    let after = c.small_step-records.result.0.looks in
    record {
      edit = record { fits = edit.edit; legal = edit.legal; changes = edit.changes; worked = edit.worked; rerun = edit.rerun };
      step = record {
        chosen = at_plan same is m e (λ x s. IsChosen (edited e x) m s.named.items) step.chosen;
        figure_change = at_plan same is m e (λ x s. IsFigureChange x (contents_then x e s) s.figure_change) step.figure_change;
        frame = at_plan same is m e (λ x s. KeepsFrame x (contents_then x e s)) step.frame;
        notes = at_plan same is m e (λ x s. AreStepNotes x (contents_then x e s) s.notes) step.notes;
      };
      looked = record {
        before = before;
        few = edit.most;
        step = at_plan same is m e (λ x s. IsStepLooked x (edited e x) e.is_rerun e.places.items s.named.items (operations_noted s.notes) before after) step.looked;
      };
    }
