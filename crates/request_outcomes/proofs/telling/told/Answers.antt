use Rattle.std.proofs.Common.{refl, Some}
use Rattle.request_outcomes.proofs.Preparing.{accepted_step}
use Rattle.request_outcomes.proofs.SmallTried.{clear_asked, enough_looked, few_looked, fits_tried, moment_asked}
use Rattle.request_outcomes.proofs.TriedLooks.{tried_covers}
use Rattle.request_outcomes.proofs.telling.told.Goals as goal
use Rattle.request_outcomes.proofs.telling.told.Goals.{After-columns_of-columns}
use Rattle.plan_model.specs.Contents.{Contents}
use Rattle.plan_model.specs.Plan.{plan_held}
use Rattle.small_requests.specs.Edits.{edited}
use Rattle.small_requests.specs.Trials.{contents_then}
use Rattle.small_requests.specs.plan_rows.specs.Notes.{IsNotedStep, operations_noted}
use Rattle.small_requests.specs.plan_rows.specs.Sources.{source_with}

-- the notes are those of a step from the plan of these records
noted : (c : After-columns_of-columns) → IsNotedStep (Some (source_with c.args.records.now.contents c.columns_of-columns.result)) (contents_then c.args.records.now.contents c.args.edit c.args.step) c.args.step.notes
noted c =
    let P = c.args.records.now.contents in
    let trial = c.requires.trial.2 in
    trial.step.notes (source_with P c.columns_of-columns.result) (c.columns_of-columns.ensures P trial.edit.fits.sound c.requires.derived) refl

pub noted_changes-requires-clause-step : goal.noted_changes-requires-clause-step
noted_changes-requires-clause-step c = (contents_then c.args.records.now.contents c.args.edit c.args.step, noted (goal.at.noted_changes-requires-clause-step c).After-columns_of-columns)

pub returns-clause-outcome : goal.returns-clause-outcome
returns-clause-outcome c =
    let P = c.args.records.now.contents in
    let q = c.args.asked.now in
    let e = c.args.edit in
    let s = c.args.step in
    let trial = c.requires.trial.2 in
    let R = contents_then P e s in
    record {
      step = accepted_step (plan_held q.clock (Some P)) q.request.now c.requires.acceptable.clear (edited e P) (record { is_request = trial.edit.legal; changes = trial.edit.changes }) q.at c.requires.acceptable.at (plan_held q.at (Some R)) s.named.items trial.step.chosen refl;
      changes = c.in_ok-changes.ensures.changes R (noted (goal.at.returns-clause-outcome c).After-columns_of-columns);
      fits = (refl, fits_tried P q.request.now.what q.at c.requires.trial.0 c.args.records.now.looks e s trial);
    }

pub returns-clause-looked : goal.returns-clause-looked
returns-clause-looked c =
    let P = c.args.records.now.contents in
    let q = c.args.asked.now in
    let w = q.request.now.what in
    let e = c.args.edit in
    let s = c.args.step in
    let first = c.requires.trial.0 in
    let trial = c.requires.trial.2 in
    let before = c.args.records.now.looks in
    let after = c.noted_changes.new.records.looks in
    let told = c.in_ok-changes.ensures in
    let rows = c.in_ok-changes.changes.rows.items in
    let changes = told.changes (contents_then P e s) (noted (goal.at.returns-clause-looked c).After-columns_of-columns) in
    let acceptable = c.requires.acceptable in
    record {
      allowed = few_looked P w q.at first before e s trial c.small_steps_look_few.ensures c.requires.small (moment_asked P q acceptable) (clear_asked P q acceptable) c.requires.trial.1 after told.most;
      cover = tried_covers P (operations_noted s.notes) before after trial.edit.fits.sound rows changes.rows_ascend told.operations told.fewest (enough_looked P w q.at first before e s trial);
    }
