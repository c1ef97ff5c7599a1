use Rattle.std.proofs.Common.{◌≡◌, ◌∙◌, sym, subst, ◌↔◌, true, List}
use Rattle.std.specs.List.Sorted.{IsStrictlySortedBy}
use Rattle.std.specs.Map.{keys_of}
use Rattle.plan_basics.specs.Keys.{occurrence_cmp}
use Rattle.plan_basics.specs.declared.keys.OccKey.{OccKey}
use Rattle.request_outcomes.proofs.remaining.remaining_of.Goals as goal
use Rattle.request_outcomes.proofs.remaining.remaining_of.Goals.{In_ok-left}
use Rattle.plan_records.specs.Changes.{IsOver, with_only}
use Rattle.plan_drafts.specs.PlanGraphs.{IsGraphFor}
use Rattle.plan_model.specs.Contents.{Contents}
use Rattle.plan_model.specs.declared.Occurrence.{Occurrence}
use Rattle.small_requests.specs.derived_figures.specs.DerivedRefs.{AreDerivedOf}
use Rattle.small_requests.specs.counted_records.specs.Leaving.{is_one_of}

-- rows that are listed where they are kept are in order
sorted : (rows seen : List (OccKey × Occurrence)) → seen ≡ rows → IsStrictlySortedBy occurrence_cmp (keys_of rows) → IsStrictlySortedBy occurrence_cmp (keys_of seen)
sorted rows seen same up = subst (λ (rs : List (OccKey × Occurrence)). IsStrictlySortedBy occurrence_cmp (keys_of rs)) (sym same) up

pub of-requires : goal.of-requires
of-requires c = subst (λ (P : Contents). AreDerivedOf P c.args.derived) (sym c.uncounted.ensures.contents) c.requires

pub graph_left-requires-clause-graph : goal.graph_left-requires-clause-graph
graph_left-requires-clause-graph c = subst (λ (P : Contents). IsGraphFor P c.args.derived.graph.now) (sym c.uncounted-2.ensures.contents) c.requires.graph

pub graph_left-requires-clause-in_order : goal.graph_left-requires-clause-in_order
graph_left-requires-clause-in_order c = sorted c.in_ok-staying.staying.items c.deref.result.now c.deref.ensures.value c.in_ok-staying.ensures.in_order

pub with_only-requires : goal.with_only-requires
with_only-requires c = sorted c.in_ok-staying.staying.items c.deref-2.result.now c.deref-2.ensures.value c.in_ok-staying.ensures.in_order

-- what is copied is the plan with what stays alone
left_is : (c : In_ok-left) → c.in_ok-left.left ≡ with_only (is_one_of c.in_ok-staying.staying.items) c.args.records.now.contents
left_is c =
    c.in_ok-left.ensures
    ∙ (λ i. with_only (is_one_of (c.deref-2.ensures.value i)) (c.in_ok-copy.ensures.copy i))

pub returns-clause-left : goal.returns-clause-left
returns-clause-left c =
    let P = c.args.records.now.contents in
    let staying = c.in_ok-staying.staying.items in
    (is_one_of staying, subst (λ (Q : Contents). (k : OccKey) → (is_one_of staying k ≡ true) ↔ ¬ IsOver Q k) (c.of.ensures ∙ c.uncounted.ensures.contents) c.in_ok-staying.ensures.stay, left_is (goal.at.returns-clause-left c).In_ok-left)

pub returns-clause-graph : goal.returns-clause-graph
returns-clause-graph c =
    let P = c.args.records.now.contents in
    let staying = c.in_ok-staying.staying.items in
    subst (λ (Q : Contents). IsGraphFor Q c.in_ok-graph.graph) (sym (left_is (goal.at.returns-clause-graph c).In_ok-left))
    (subst (λ (Q : Contents). IsGraphFor Q c.in_ok-graph.graph) (λ i. with_only (is_one_of (c.deref.ensures.value i)) (c.uncounted-2.ensures.contents i)) c.in_ok-graph.ensures.graph)
