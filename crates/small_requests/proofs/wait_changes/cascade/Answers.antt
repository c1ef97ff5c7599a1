use Rattle.std.proofs.Common.{◌≡◌, inl, sym, subst, ℕ, ◌<◌, List, map, length, []}
use Rattle.satisfaction.specs.Journal.{AreWithin, IsJournaled}
use Rattle.satisfaction.specs.declared.nodes.WaitState.{WaitState}
use Rattle.plan_drafts.proofs.Lists.{contains_none, from_map}
use Rattle.small_requests.proofs.Counted.{counted_anew, counted_up, on_ok_both}
use Rattle.small_requests.proofs.StepParts.{all_below, graph_after, on_ok}
use Rattle.small_requests.proofs.wait_changes.cascade.Goals as goal
use Rattle.small_requests.specs.Edits.{AreBelow}
use Rattle.plan_checks.specs.derived_figures.proofs.Journals.{unnoted_stays}
use Rattle.plan_checks.specs.derived_figures.specs.WaitingChanges.{IsRisen, IsTakenBack}

-- the places of a journal that was begun empty are those of nodes
noted_below : (wait_states now : List WaitState) (journal new : List (ℕ × WaitState)) → IsJournaled wait_states journal now new → journal ≡ [] → AreBelow (length wait_states) (map (λ (e : ℕ × WaitState). e.0) new)
noted_below wait_states now journal new is empty i has =
    let entry = from_map (λ (e : ℕ × WaitState). e.0) new i has in
    let none : AreWithin (length wait_states) journal = subst (AreWithin (length wait_states)) (sym empty) (λ e has. absurd (contains_none e has)) in
    let lt = is.within none entry.0 entry.1 in
    subst (λ n. n < length wait_states) entry.2 lt

pub unsatisfy-requires-clause-graph : goal.unsatisfy-requires-clause-graph
unsatisfy-requires-clause-graph c =
    graph_after c.requires.before.0 c.args.records.now.contents c.args.edit.now.places.items c.requires.before.1.edit.moved c.args.graph.now c.requires.before.1.graph

pub unsatisfy-requires-clause-moved : goal.unsatisfy-requires-clause-moved
unsatisfy-requires-clause-moved c =
    let P = c.requires.before.0 in
    let Q = c.args.records.now.contents in
    let g = c.args.graph.now in
    let wait_states = c.args.wait_states.now in
    let edit = c.requires.before.1.edit in
    let places = c.args.edit.now.places.items in
    let right = c.requires.before.1.wait_states in (
      P,
      subst (IsTakenBack P Q g wait_states) (sym c.deref.ensures.value)
          (record { moved = edit.moved; right = right; within = all_below (length wait_states) places (λ i has. subst (λ n. i < n) (sym right.size) (edit.within i has)); follow = edit.follow c.if-edit.true g c.requires.before.1.graph }),
    )

pub satisfy-requires-clause-graph : goal.satisfy-requires-clause-graph
satisfy-requires-clause-graph c =
    graph_after c.requires.before.0 c.args.records.now.contents c.args.edit.now.places.items c.requires.before.1.edit.moved c.args.graph.now c.requires.before.1.graph

pub satisfy-requires-clause-moved : goal.satisfy-requires-clause-moved
satisfy-requires-clause-moved c =
    let P = c.requires.before.0 in
    let Q = c.args.records.now.contents in
    let wait_states = c.args.wait_states.now in
    let edit = c.requires.before.1.edit in
    let places = c.args.edit.now.places.items in
    let right = c.requires.before.1.wait_states in (
      P,
      subst (IsRisen P Q wait_states) (sym c.deref-else-edit.ensures.value)
          (record { moved = edit.moved; right = right; within = all_below (length wait_states) places (λ i has. subst (λ n. i < n) (sym right.size) (edit.within i has)); unsatisfied = λ i has. inl (edit.unsatisfied c.if-edit.false i has) }),
    )

pub returns-then-edit-clause-noted : goal.returns-then-edit-clause-noted
returns-then-edit-clause-noted c = on_ok c.unsatisfy.result (unnoted_stays c.args.wait_states.now c.unsatisfy.new.wait_states c.args.journal.now.items c.unsatisfy.new.journal.items c.unsatisfy.ensures.journaled c.requires.journal)

pub returns-else-edit-clause-noted : goal.returns-else-edit-clause-noted
returns-else-edit-clause-noted c = on_ok c.satisfy.result (unnoted_stays c.args.wait_states.now c.satisfy.new.wait_states c.args.journal.now.items c.satisfy.new.journal.items c.satisfy.ensures.journaled c.requires.journal)

pub returns-then-edit-clause-within : goal.returns-then-edit-clause-within
returns-then-edit-clause-within c = on_ok c.unsatisfy.result (noted_below c.args.wait_states.now c.unsatisfy.new.wait_states c.args.journal.now.items c.unsatisfy.new.journal.items c.unsatisfy.ensures.journaled c.requires.journal)

pub returns-else-edit-clause-within : goal.returns-else-edit-clause-within
returns-else-edit-clause-within c = on_ok c.satisfy.result (noted_below c.args.wait_states.now c.satisfy.new.wait_states c.args.journal.now.items c.satisfy.new.journal.items c.satisfy.ensures.journaled c.requires.journal)

pub returns-then-edit-clause-counted : goal.returns-then-edit-clause-counted
returns-then-edit-clause-counted c =
    let P = c.requires.before.0 in
    let Q = c.args.records.now.contents in
    let graph = graph_after P Q c.args.edit.now.places.items c.requires.before.1.edit.moved c.args.graph.now c.requires.before.1.graph in
    on_ok_both c.unsatisfy.result c.unsatisfy.ensures.places c.unsatisfy.ensures.most
    (counted_anew Q c.args.edit.now c.args.graph.now graph c.deref.result.now c.deref.ensures.value c.args.wait_states.now c.unsatisfy.new.wait_states c.args.journal.now.items c.unsatisfy.new.journal.items c.requires.journal c.args.records.now.looks c.unsatisfy.new.records.looks c.if-edit.true)

pub returns-else-edit-clause-counted : goal.returns-else-edit-clause-counted
returns-else-edit-clause-counted c =
    let P = c.requires.before.0 in
    let Q = c.args.records.now.contents in
    let graph = graph_after P Q c.args.edit.now.places.items c.requires.before.1.edit.moved c.args.graph.now c.requires.before.1.graph in
    on_ok_both c.satisfy.result c.satisfy.ensures.places c.satisfy.ensures.most
    (counted_up Q c.args.edit.now c.args.graph.now graph c.deref-else-edit.result.now c.deref-else-edit.ensures.value c.args.wait_states.now c.satisfy.new.wait_states c.args.journal.now.items c.satisfy.new.journal.items c.requires.journal c.args.records.now.looks c.satisfy.new.records.looks)
