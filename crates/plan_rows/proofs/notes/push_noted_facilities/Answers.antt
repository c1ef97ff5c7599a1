use Rattle.std.proofs.Common.{◌∙◌, List, Some, sym, ap, subst}
use Rattle.std.specs.List.Sorted.{IsStrictlySortedBy}
use Rattle.std.specs.Map.{keys_of}
use Rattle.std.proofs.lemmas.Result.{on_ok_weaker}
use Rattle.plan_basics.specs.Keys.{Name, name_cmp}
use Rattle.plan_model.proofs.Entries.{entries_in_order}
use Rattle.plan_model.specs.Contents.{Contents}
use Rattle.plan_model.specs.declared.Stock.{Stock}
use Rattle.std.specs.FinMap.{entries}
use Rattle.plan_rows.proofs.TouchedTables.{intervals_stay, resources_stay}
use Rattle.plan_rows.proofs.WithinRows.{intervals_ascend}
use Rattle.plan_rows.proofs.notes.push_noted_facilities.Goals as goal
use Rattle.plan_rows.specs.Notes.{NotesFacilities}
use Rattle.plan_rows.specs.Sources.{plan_if_any}

pub push_noted_resources-requires-clause-after : goal.push_noted_resources-requires-clause-after
push_noted_resources-requires-clause-after c =
    let (after, source, notes) = c.requires.noted in
    let h = subst (NotesFacilities c.args.records.now.contents after.contents.now) c.in-Resources.is notes in
    subst (λ (xs : List (Name × Stock)). IsStrictlySortedBy name_cmp (keys_of xs)) (sym (c.deref.ensures.value ∙ h.3)) (entries_in_order name_cmp after.contents.now.resources)

pub push_noted_intervals-requires-clause-in_order : goal.push_noted_intervals-requires-clause-in_order
push_noted_intervals-requires-clause-in_order c =
    let (after, source, notes) = c.requires.noted in
    let h = subst (NotesFacilities c.args.records.now.contents after.contents.now) c.in-Intervals.is notes in
    intervals_ascend (entries after.contents.now.workstations) (entries_in_order name_cmp after.contents.now.workstations) c.deref-in-Intervals.result.now (c.deref-in-Intervals.ensures.value ∙ h.2)

pub returns-in-Nothing : goal.returns-in-Nothing
returns-in-Nothing c = λ before after same was is notes clock now so_far.
    let h = subst (NotesFacilities c.args.records.now.contents after.contents.now) c.in-Nothing.is notes in
    resources_stay clock now (Some before) (Some after) c.args.changes.now (h.1 ∙ ap (λ (P : Contents). P.resources) (sym same))
    (intervals_stay clock now (Some before) (Some after) c.args.changes.now (h.0 ∙ ap (λ (P : Contents). P.workstations) (sym same)) so_far)

pub returns-in-Resources : goal.returns-in-Resources
returns-in-Resources c = λ before after same was is notes clock now so_far.
    let h = subst (NotesFacilities c.args.records.now.contents after.contents.now) c.in-Resources.is notes in
    c.push_noted_resources.ensures (plan_if_any clock (Some before)) (plan_if_any now (Some after))
    (c.resources.ensures.rows ∙ ap (λ (P : Contents). entries P.resources) (c.uncounted-kept.ensures.contents ∙ sym same))
    (c.deref.ensures.value ∙ h.3)
    (intervals_stay clock now (Some before) (Some after) c.args.changes.now (h.0 ∙ ap (λ (P : Contents). P.workstations) (sym same)) so_far)

pub returns-in-Intervals : goal.returns-in-Intervals
returns-in-Intervals c = λ before after same was is notes clock now so_far.
    let h = subst (NotesFacilities c.args.records.now.contents after.contents.now) c.in-Intervals.is notes in
    on_ok_weaker c.push_noted_intervals.result (resources_stay clock now (Some before) (Some after) c.push_noted_intervals.new.changes (h.0 ∙ ap (λ (P : Contents). P.resources) (sym same)))
    (c.push_noted_intervals.ensures (Some before) (Some after) was is
    (c.workstations.ensures.rows ∙ ap (λ (P : Contents). entries P.workstations) (c.uncounted-kept.ensures.contents ∙ sym same))
    (c.deref-in-Intervals.ensures.value ∙ h.2) clock now so_far)
