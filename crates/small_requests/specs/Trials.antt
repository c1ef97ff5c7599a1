-- What was tried in the plan.
use Rattle.std.specs.Prelude.{◌≡◌, ℕ, ◌+◌, ◌≤◌, true, length}
use Rattle.plan_checks.specs.derived_figures.specs.Figures.{KeepsFrame}
use Rattle.plan_records.specs.Changes.{Changes, IsRequest}
use Rattle.plan_records.specs.declared.What.{What}
use Rattle.plan_model.specs.Contents.{Contents}
use Rattle.plan_model.specs.Ready.{IsChosen, named}
use Rattle.plan_rows.specs.Notes.{operations_noted}
use Rattle.small_requests.specs.Edits.{IsEditFor, edited}
use Rattle.small_requests.specs.RequestEdits.{IsRerun}
use Rattle.small_requests.specs.Naming.{AreStepNotes}
use Rattle.small_requests.specs.FigureChanges.{IsFigureChange}
use Rattle.small_requests.specs.StepLooks.{AreWorkedAt, IsStepLooked, one_at_least}
use Rattle.small_requests.specs.declared.edits.Edit.{Edit}
use Rattle.small_requests.specs.declared.named_steps.SmallStep.{SmallStep}

-- what a plan that holds P holds once the edit is written and what the step names is marked so
abbrev pub contents_then : Contents → Edit → SmallStep → Contents
contents_then P e s = named s.named.items (edited e P)

-- the edit is what the request makes of a plan that holds P
pub record IsEditBy (P : Contents) (w : What) (e : Edit) : Type 0 where
  pub fits : IsEditFor P e
  pub legal : IsRequest w
  pub changes : Changes P w (edited e P)
  pub worked : AreWorkedAt P (edited e P) w e.places.items
  pub rerun : e.is_rerun ≡ true → IsRerun w

-- the step is what the edit leads to from P at minute m: what is named, what changes in the figures, and the notes of what the plan holds then
pub record IsStepBy (P : Contents) (m : ℕ) (e : Edit) (s : SmallStep) : Type 0 where
  pub chosen : IsChosen (edited e P) m s.named.items
  pub figure_change : IsFigureChange P (contents_then P e s) s.figure_change
  pub frame : KeepsFrame P (contents_then P e s)
  pub notes : AreStepNotes P (contents_then P e s) s.notes

-- looks went from `first` to `after` as it was tried: to some number by the edit, and on from there by the step
pub record IsTrialLooked (P : Contents) (e : Edit) (s : SmallStep) (first after : ℕ) : Type 0 where
  pub before : ℕ
  pub few : before ≤ first + one_at_least (length e.places.items)
  pub step : IsStepLooked P (edited e P) e.is_rerun e.places.items s.named.items (operations_noted s.notes) before after

-- a small request was tried at minute m in a plan that holds P, by which looks went from `first` to `after`: it writes this edit, which leads to this step
pub record IsTrialOf (P : Contents) (w : What) (m first after : ℕ) (e : Edit) (s : SmallStep) : Type 0 where
  pub edit : IsEditBy P w e
  pub step : IsStepBy P m e s
  pub looked : IsTrialLooked P e s first after
