use Rattle.std.proofs.Common.{◌<◌, refl, sym, subst, ◌∙◌, length, All}
use Rattle.std.specs.FinMap.{entries}
use Rattle.plan_drafts.specs.Places.{AreStatuses}
use Rattle.plan_model.specs.Contents.{Contents}
use Rattle.plan_rows.specs.Sources.{IsSource, source_with}
use Rattle.plan_rows.specs.declared.columns.SourceColumns.{SourceColumns as Lent}
use Rattle.plan_checks.specs.plan_status.specs.Standings.{AreStandings, AreTallies}
use Rattle.small_requests.proofs.StepParts.{all_below}
use Rattle.small_requests.proofs.step_notes.noted_of.Goals as goal
use Rattle.small_requests.proofs.step_notes.noted_of.Goals.{After-deref-3}
use Rattle.small_requests.specs.Columns.{IsSnapshotOf}

-- what is lent of the columns
abbrev lent : After-deref-3 → Lent
lent c = record { standings = c.deref.result; statuses = c.deref-2.result; tallies = c.deref-3.result; latest = c.args.latest }

-- it is a source of the plan
shows : (c : After-deref-3) → IsSource (source_with c.args.records.now.contents (lent c))
shows c =
    let P = c.args.records.now.contents in
    let are = c.requires.columns in
    record {
      sound = c.uncounted.ensures.sound;
      standings = subst (AreStandings P) (sym c.deref.ensures.value) are.standings;
      statuses = subst (AreStatuses P) (sym c.deref-2.ensures.value) are.statuses;
      tallies = subst (AreTallies P) (sym c.deref-3.ensures.value) are.tallies;
      latest = c.requires.latest;
    }

pub notes_of-requires-clause-source : goal.notes_of-requires-clause-source
notes_of-requires-clause-source c = shows (goal.at.notes_of-requires-clause-source c).After-deref-3

pub snapshot_of-requires-clause-within : goal.snapshot_of-requires-clause-within
snapshot_of-requires-clause-within c =
    subst (λ (Q : Contents). All (λ i. i < length (entries Q.operations)) c.args.touched.now) (sym (c.uncounted-2.ensures.contents ∙ c.notes_of.ensures.contents))
    (all_below (length (entries c.args.records.now.contents.operations)) c.args.touched.now c.requires.touched.within)

pub returns-clause-noted : goal.returns-clause-noted
returns-clause-noted c =
    let here = (goal.at.returns-clause-noted c).After-deref-3 in
    let P = c.args.records.now.contents in
    record {
      notes = record { source = source_with P (lent here); is_source = shows here; holds = refl; noted = c.in_ok-notes.ensures.notes };
      all_noted = c.in_ok-notes.ensures.noted;
      columns = record {
        columns = c.args.columns.now;
        are = c.requires.columns;
        snapshot = subst (λ (Q : Contents). IsSnapshotOf Q c.args.touched.now c.args.columns.now c.in_ok-columns.columns) (c.uncounted-2.ensures.contents ∙ c.notes_of.ensures.contents) c.in_ok-columns.ensures;
      };
    }
