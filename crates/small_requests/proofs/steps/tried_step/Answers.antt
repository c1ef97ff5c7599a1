use Rattle.std.proofs.Common.{◌≡◌, sym, subst, ap, ◌∙◌, IfOk}
use Rattle.plan_checks.specs.plan_changes.proofs.Answered.{if_ok}
use Rattle.plan_model.specs.Contents.{Contents}
use Rattle.plan_model.specs.Ready.{IsChosen, named}
use Rattle.plan_model.specs.Valid.{IsSound}
use Rattle.plan_checks.specs.derived_figures.specs.Figures.{KeepsFrame}
use Rattle.small_requests.specs.StepLooks.{IsStepLooked}
use Rattle.plan_rows.specs.Notes.{operations_noted}
use Rattle.small_requests.proofs.ColumnParts.{are_columns, are_figures, are_allocations, is_list}
use Rattle.small_requests.proofs.steps.tried_step.Goals as goal
use Rattle.small_requests.proofs.steps.tried_step.Goals.{After-with_revision-after}
use Rattle.small_requests.specs.Columns.{figures_of}
use Rattle.small_requests.specs.FigureChanges.{IsFigureChange}
use Rattle.small_requests.specs.Edits.{IsEditOf, WasEdited, edited}
use Rattle.small_requests.specs.Naming.{AreStepNotes}
use Rattle.small_requests.specs.Revisions.{HasPlaceFor, written}

pub undo_of-requires-clause-allocations : goal.undo_of-requires-clause-allocations
undo_of-requires-clause-allocations c = are_allocations c.args.records.contents c.args.columns.now c.args.ready.now c.args.allocations.now c.requires.figures

pub with_revision-after-requires-clause-has_place : goal.with_revision-after-requires-clause-has_place
with_revision-after-requires-clause-has_place c = subst (HasPlaceFor c.args.records.contents) (sym c.in-Ok.ensures.forth) c.requires.edit.has_place

pub with_revision-after-requires-clause-sound : goal.with_revision-after-requires-clause-sound
with_revision-after-requires-clause-sound c =
    subst (λ ks. IsSound (written ks c.in-Ok.undo.forth c.args.records.contents)) (sym c.deref.ensures.value)
    (subst (λ x. IsSound (written c.args.edit.now.keys.items x c.args.records.contents)) (sym c.in-Ok.ensures.forth) c.requires.edit.sound_after)

-- what was written makes the edited plan
is_edited : (c : After-with_revision-after) → c.with_revision-after.result.contents ≡ edited c.args.edit.now c.args.records.contents
is_edited c =
    c.with_revision-after.ensures.contents
    ∙ ap (λ ks. written ks c.in-Ok.undo.forth c.args.records.contents) c.deref.ensures.value
    ∙ ap (λ x. written c.args.edit.now.keys.items x c.args.records.contents) c.in-Ok.ensures.forth

-- of which the edit was made
was_edited : (c : After-with_revision-after) → WasEdited c.args.records.contents c.with_revision-after.result.contents c.args.edit.now c.args.context.now.graph.now c.args.context.now.latest.now.starts (figures_of c.args.columns.now c.args.ready.now c.in-Ok.undo.allocations)
was_edited c =
    let P = c.args.records.contents in
    let e = c.args.edit.now in
    record {
      sound = c.requires.edit.sound;
      sound_after = subst IsSound (sym (is_edited c)) c.requires.edit.sound_after;
      edit = subst (λ (Q : Contents). IsEditOf P Q e) (sym (is_edited c)) c.requires.edit.edit;
      after = is_edited c;
      graph = c.requires.graph;
      latest = c.requires.latest;
      figures = are_figures P c.args.columns.now c.args.ready.now c.in-Ok.undo.allocations (are_columns P c.args.columns.now c.args.ready.now c.args.allocations.now c.requires.figures) (is_list P c.args.columns.now c.args.ready.now c.args.allocations.now c.requires.figures) c.in-Ok.ensures.allocations;
    }

pub step_after-same-requires : goal.step_after-same-requires
step_after-same-requires c = (c.args.records.contents, was_edited (goal.at.step_after-same-requires c).After-with_revision-after)

pub without_edit-requires : goal.without_edit-requires
without_edit-requires c =
    let is = is_edited (goal.at.without_edit-requires c).After-with_revision-after in
    (c.args.records.contents, record { edit = c.requires.edit; puts_back = c.in-Ok.ensures.back; after = c.step_after-same.ensures.contents ∙ is })

pub returns-in-Ok-clause-contents : goal.returns-in-Ok-clause-contents
returns-in-Ok-clause-contents c =
    let is = is_edited (goal.at.returns-in-Ok-clause-contents c).After-with_revision-after in
    c.without_edit.ensures.contents c.args.records.contents (record { edit = c.requires.edit; puts_back = c.in-Ok.ensures.back; after = c.step_after-same.ensures.contents ∙ is })

pub returns-in-Ok-clause-ready : goal.returns-in-Ok-clause-ready
returns-in-Ok-clause-ready c = c.step_after-same.ensures.ready c.args.records.contents (was_edited (goal.at.returns-in-Ok-clause-ready c).After-with_revision-after)

pub returns-in-Err-clause-ready : goal.returns-in-Err-clause-ready
returns-in-Err-clause-ready c = is_list c.args.records.contents c.args.columns.now c.args.ready.now c.args.allocations.now c.requires.figures

pub returns-in-Ok-clause-chosen : goal.returns-in-Ok-clause-chosen
returns-in-Ok-clause-chosen c =
    let is = is_edited (goal.at.returns-in-Ok-clause-chosen c).After-with_revision-after in
    subst (λ (Q : Contents). IfOk c.step_after-same.result.1 (λ s. IsChosen Q c.args.context.now.at s.named.items)) is c.step_after-same.ensures.chosen

pub returns-in-Ok-clause-figure_change : goal.returns-in-Ok-clause-figure_change
returns-in-Ok-clause-figure_change c =
    let here = (goal.at.returns-in-Ok-clause-figure_change c).After-with_revision-after in
    let P = c.args.records.contents in
    if_ok c.step_after-same.result.1 (λ s figure_change. subst (λ (Q : Contents). IsFigureChange P (named s.named.items Q) s.figure_change) (is_edited here) (figure_change P (was_edited here))) c.step_after-same.ensures.figure_change

pub returns-in-Ok-clause-frame : goal.returns-in-Ok-clause-frame
returns-in-Ok-clause-frame c =
    let here = (goal.at.returns-in-Ok-clause-frame c).After-with_revision-after in
    let P = c.args.records.contents in
    if_ok c.step_after-same.result.1 (λ s keeps. subst (λ (Q : Contents). KeepsFrame P (named s.named.items Q)) (is_edited here) (keeps P (was_edited here))) c.step_after-same.ensures.frame

pub returns-in-Ok-clause-notes : goal.returns-in-Ok-clause-notes
returns-in-Ok-clause-notes c =
    let here = (goal.at.returns-in-Ok-clause-notes c).After-with_revision-after in
    let P = c.args.records.contents in
    if_ok c.step_after-same.result.1 (λ s notes. subst (λ (Q : Contents). AreStepNotes P (named s.named.items Q) s.notes) (is_edited here) (notes P (was_edited here))) c.step_after-same.ensures.notes

pub returns-in-Ok-clause-looked : goal.returns-in-Ok-clause-looked
returns-in-Ok-clause-looked c =
    let here = (goal.at.returns-in-Ok-clause-looked c).After-with_revision-after in
    let P = c.args.records.contents in
    let e = c.args.edit.now in
    let before = c.with_revision-after.result.looks in
    let after = c.step_after-same.result.0.looks in
    if_ok c.step_after-same.result.1 (λ s looked.
    subst (λ k. IsStepLooked P (edited e P) e.is_rerun e.places.items s.named.items (operations_noted s.notes) c.args.records.looks k) (sym c.without_edit.ensures.looks)
    (subst (λ k. IsStepLooked P (edited e P) e.is_rerun e.places.items s.named.items (operations_noted s.notes) k after) c.with_revision-after.ensures.looks
    (subst (λ (Q : Contents). IsStepLooked P Q e.is_rerun e.places.items s.named.items (operations_noted s.notes) before after) (is_edited here) (looked P (was_edited here))))) c.step_after-same.ensures.looked
