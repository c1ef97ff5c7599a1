use Rattle.std.proofs.Common.{sym, subst, IfOk}
use Rattle.plan_checks.specs.plan_changes.proofs.Answered.{if_ok}
use Rattle.plan_model.specs.Contents.{Contents}
use Rattle.plan_rows.specs.Touched.{IsFacilityChange}
use Rattle.small_requests.proofs.Looked.{step_looked}
use Rattle.small_requests.proofs.MadeSteps.{step_noted, step_figure_change, worked_out}
use Rattle.small_requests.proofs.SmallSteps.{keeps_frame}
use Rattle.small_requests.proofs.moved_steps.step_after.Goals as goal
use Rattle.small_requests.proofs.moved_steps.step_after.Goals.{In-Ok, After-moved_step}
use Rattle.small_requests.specs.Columns.{figures_of}
use Rattle.small_requests.specs.Edits.{WasEdited}
use Rattle.small_requests.specs.Effects.{IsMovedStepOf}
use Rattle.small_requests.specs.Groundworks.{HasGroundwork}

module _ (c : In-Ok) (P : Contents) (was : WasEdited P c.args.after.contents c.args.edit.now c.args.context.now.graph.now c.args.context.now.latest.now.starts (figures_of c.args.columns.now c.args.ready.now c.args.allocations)) where
  -- what was worked out of the edit
  has : HasGroundwork P c.args.after.contents c.args.edit.now.places.items c.args.context.now.latest.now.starts c.groundwork_of.new.columns c.args.ready.now c.in-Ok.groundwork_with_room.0
  has =
      worked_out P c.args.after.contents c.args.edit.now c.args.context.now.graph.now c.args.context.now.latest.now.starts c.args.columns.now c.args.ready.now c.args.allocations was
      c.groundwork_of.new.columns c.groundwork_of.ensures.unchanged c.in-Ok.groundwork_with_room.0 c.in-Ok.ensures.groundwork

  -- the records are the same then
  has_then : HasGroundwork P c.groundwork_of.new.records.contents c.args.edit.now.places.items c.args.context.now.latest.now.starts c.groundwork_of.new.columns c.args.ready.now c.in-Ok.groundwork_with_room.0
  has_then =
      subst (λ (Q : Contents). HasGroundwork P Q c.args.edit.now.places.items c.args.context.now.latest.now.starts c.groundwork_of.new.columns c.args.ready.now c.in-Ok.groundwork_with_room.0)
      (sym c.groundwork_of.ensures.contents) has

-- what follows is a step in it
step : (c : After-moved_step) → IfOk c.moved_step.result.1 (IsMovedStepOf c.args.after.contents c.args.context.now.at c.in-Ok.groundwork_with_room.0.touched.items c.in-Ok.groundwork_with_room.0.facilities c.groundwork_of.new.records.looks c.moved_step.result.0.looks)
step c =
    subst (λ (Q : Contents). IfOk c.moved_step.result.1 (IsMovedStepOf Q c.args.context.now.at c.in-Ok.groundwork_with_room.0.touched.items c.in-Ok.groundwork_with_room.0.facilities c.groundwork_of.new.records.looks c.moved_step.result.0.looks))
    c.groundwork_of.ensures.contents c.moved_step.ensures.step

pub moved_step-requires-clause-groundwork : goal.moved_step-requires-clause-groundwork
moved_step-requires-clause-groundwork c = let (P, was) = c.requires in (P, c.args.edit.now.places.items, has_then (goal.at.moved_step-requires-clause-groundwork c).In-Ok P was)

pub returns-in-Ok-clause-ready : goal.returns-in-Ok-clause-ready
returns-in-Ok-clause-ready c P was = c.moved_step.ensures.ready P c.args.edit.now.places.items (has_then (goal.at.returns-in-Ok-clause-ready c).In-Ok P was)

pub returns-in-Ok-clause-figure_change : goal.returns-in-Ok-clause-figure_change
returns-in-Ok-clause-figure_change c =
    let here = (goal.at.returns-in-Ok-clause-figure_change c).In-Ok in
    if_ok c.moved_step.result.1 (λ s is P was.
    step_figure_change P c.args.after.contents c.args.edit.now.places.items c.args.context.now.latest.now.starts c.groundwork_of.new.columns c.args.ready.now c.in-Ok.groundwork_with_room.0 (has here P was) c.args.context.now.at c.in-Ok.groundwork_with_room.0.facilities
    is.0 c.moved_step.result.0.looks s is.3) (step (goal.at.returns-in-Ok-clause-figure_change c).After-moved_step)

pub returns-in-Ok-clause-frame : goal.returns-in-Ok-clause-frame
returns-in-Ok-clause-frame c =
    if_ok c.moved_step.result.1 (λ s is P was. keeps_frame P c.args.after.contents c.args.context.now.at s.named.items is.3.chosen is.3.places is.3.are_places c.args.edit.now.places.items was.edit.moved was.edit.alike)
    (step (goal.at.returns-in-Ok-clause-frame c).After-moved_step)

pub returns-in-Ok-clause-notes : goal.returns-in-Ok-clause-notes
returns-in-Ok-clause-notes c =
    let here = (goal.at.returns-in-Ok-clause-notes c).In-Ok in
    if_ok c.moved_step.result.1 (λ s is P was.
    let stays = subst (IsFacilityChange c.in-Ok.groundwork_with_room.0.facilities P) (sym was.after) (c.in-Ok.ensures.facilities c.args.edit.now.keys.items P) in
    step_noted P c.args.after.contents c.args.edit.now.places.items c.args.context.now.latest.now.starts c.groundwork_of.new.columns c.args.ready.now c.in-Ok.groundwork_with_room.0 (has here P was) c.args.context.now.at c.in-Ok.groundwork_with_room.0.facilities
    is.0 c.moved_step.result.0.looks s is.3 stays) (step (goal.at.returns-in-Ok-clause-notes c).After-moved_step)

pub returns-in-Ok-clause-looked : goal.returns-in-Ok-clause-looked
returns-in-Ok-clause-looked c =
    let here = (goal.at.returns-in-Ok-clause-looked c).In-Ok in
    if_ok c.moved_step.result.1 (λ s is P was.
    step_looked P c.args.after.contents c.args.edit.now c.args.context.now.latest.now.starts c.groundwork_of.new.columns c.args.ready.now c.in-Ok.groundwork_with_room.0 (has here P was) c.args.context.now.at c.in-Ok.groundwork_with_room.0.facilities
    c.args.after.looks c.groundwork_of.new.records.looks c.moved_step.result.0.looks s c.groundwork_of.ensures.fewest c.in-Ok.ensures.counted is) (step (goal.at.returns-in-Ok-clause-looked c).After-moved_step)
