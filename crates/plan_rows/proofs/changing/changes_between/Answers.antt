use Rattle.std.proofs.Common.{◌∙◌, sym, subst, ap, Some}
use Rattle.derived_figures.specs.counted_records.specs.States.{CountedState}
use Rattle.plan_model.specs.Contents.{Contents}
use Rattle.plan_model.specs.Plan.{plan_held}
use Rattle.plan_rows.proofs.AllTables.{in_all_tables}
use Rattle.plan_rows.proofs.changing.changes_between.Goals as goal
use Rattle.plan_rows.specs.Kept.{AreNewNeeds, KeepsRecords}
use Rattle.plan_rows.specs.Sources.{IsSource, contents_if_any, plan_if_any, source_with, source_if_any}
use Rattle.plan_rows.specs.Tables.{AreChangesBelow}

pub push_stations-requires-clause-after : goal.push_stations-requires-clause-after
push_stations-requires-clause-after c = subst (λ (C : Contents). IsSource (source_with C c.args.columns)) (sym c.uncounted-uncounted.ensures.contents) c.requires.source

pub push_operations-requires-clause-source : goal.push_operations-requires-clause-source
push_operations-requires-clause-source c = subst (λ (s : CountedState). IsSource (source_with s.contents c.args.columns)) (sym c.in_ok-push_occurrences.ensures.unchanged) c.requires.source

pub push_operations-requires-clause-kept : goal.push_operations-requires-clause-kept
push_operations-requires-clause-kept c = subst (λ (s : CountedState). KeepsRecords (contents_if_any (source_if_any c.args.before.now.loaded)) s.contents) (sym c.in_ok-push_occurrences.ensures.unchanged) c.requires.kept

-- what the records hold stays, whatever is looked at
pub new_needs-requires-clause-kept : goal.new_needs-requires-clause-kept
new_needs-requires-clause-kept c =
    let same = c.in_ok-push_operations.ensures.contents ∙ ap (λ (s : CountedState). s.contents) c.in_ok-push_occurrences.ensures.unchanged in
    subst (KeepsRecords (contents_if_any (source_if_any c.args.before.now.loaded))) (sym same) c.requires.kept

pub push_links-requires-clause-kept : goal.push_links-requires-clause-kept
push_links-requires-clause-kept c =
    let told = c.in_ok-push_operations.ensures.contents ∙ ap (λ (s : CountedState). s.contents) c.in_ok-push_occurrences.ensures.unchanged in
    let same = c.uncounted-uncounted-2.ensures.contents ∙ c.in_ok-needs.ensures.contents ∙ told in
    subst (KeepsRecords (contents_if_any (source_if_any c.args.before.now.loaded))) (sym same) c.requires.kept

pub push_links-requires-clause-needs : goal.push_links-requires-clause-needs
push_links-requires-clause-needs c =
    let P = contents_if_any (source_if_any c.args.before.now.loaded) in
    let same = c.uncounted-uncounted-2.ensures.contents ∙ c.in_ok-needs.ensures.contents in
    subst (λ (C : Contents). AreNewNeeds P C c.deref.result.now) (sym same) (subst (AreNewNeeds P c.push_operations.new.records.contents) (sym c.deref.ensures.value) c.in_ok-needs.ensures.needs)

-- table by table
pub returns-clause-changes : goal.returns-clause-changes
returns-clause-changes c =
    let was = c.args.before.now.clock in
    let now = c.args.clock in
    let P = plan_if_any was (source_if_any c.args.before.now.loaded) in
    let Q = c.args.records.now.contents in
    let first = c.uncounted-uncounted.ensures.contents in
    let seen = ap (λ (s : CountedState). s.contents) c.in_ok-push_occurrences.ensures.unchanged in
    let told = c.in_ok-push_operations.ensures.contents ∙ seen in
    let then = c.uncounted-uncounted-2.ensures.contents ∙ c.in_ok-needs.ensures.contents ∙ told in
    let S = source_with Q c.args.columns in
    let stations = subst (λ (C : Contents). AreChangesBelow 4 P (plan_held now (Some C)) c.push_stations.new.changes) first (c.in_ok-push_stations.ensures was now (subst (λ (C : Contents). AreChangesBelow 1 P (plan_held now (Some C)) c.in_ok-changes.changes) (sym first) (c.in_ok-changes.ensures S))) in
    let occurrences = c.in_ok-push_occurrences.ensures.changes was now stations in
    let operations = subst (λ (C : Contents). AreChangesBelow 6 P (plan_held now (Some C)) c.push_operations.new.changes) seen (c.in_ok-push_operations.ensures.changes was now (subst (λ (C : Contents). AreChangesBelow 5 P (plan_held now (Some C)) c.push_occurrences.new.changes) (sym seen) occurrences)) in
    let links = subst (λ (C : Contents). AreChangesBelow 10 P (plan_held now (Some C)) c.push_links.new.changes) then (c.in_ok-push_links.ensures was now (subst (λ (C : Contents). AreChangesBelow 6 P (plan_held now (Some C)) c.push_operations.new.changes) (sym then) operations)) in
    in_all_tables P (plan_held now (Some Q)) c.push_links.new.changes.rows.items c.push_links.new.changes.gone.items links
