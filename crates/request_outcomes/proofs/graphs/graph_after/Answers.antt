use Rattle.std.proofs.Common.{sym, subst, IfOk}
use Rattle.std.specs.FinMap.{get}
use Rattle.operation_graph.specs.Graphs.{Digraph}
use Rattle.plan_basics.specs.declared.Refusal.TheVariants as refusal
use Rattle.request_outcomes.proofs.HandedGraphs.{deletion_keeps_graph}
use Rattle.request_outcomes.proofs.graphs.graph_after.Goals as goal
use Rattle.plan_records.specs.Acceptance.{MayBeDone}
use Rattle.plan_records.specs.Changes.{Changes}
use Rattle.plan_records.specs.declared.What.{What}
use Rattle.plan_drafts.proofs.Tables.{some_is}
use Rattle.plan_drafts.specs.PlanGraphs.{IsGraphFor}
use Rattle.plan_model.specs.Contents.{Contents}
use Rattle.small_requests.specs.plan_changes.proofs.Answered.{if_ok}

pub returns-in-DeleteOccurrence-clause-graph : goal.returns-in-DeleteOccurrence-clause-graph
returns-in-DeleteOccurrence-clause-graph c =
    let P = c.args.uncounted.now.contents.now in
    let Q = c.args.new.now.contents.now in
    let change = subst (λ (w : What). Changes P w Q) c.in-DeleteOccurrence.is c.requires.made.changes in
    if_ok c.try_clone.result (λ copy same. subst (λ (g : Digraph). IsGraphFor Q g) (sym same) (deletion_keeps_graph P Q c.in-DeleteOccurrence.field-0 change c.args.graph.now c.requires.graph)) c.try_clone.ensures.same

pub graph_with-requires-clause-first : goal.graph_with-requires-clause-first
graph_with-requires-clause-first c =
    let P = c.args.uncounted.now.contents.now in
    let known = subst (λ (w : What). MayBeDone P c.requires.clear.0 w refusal.UnknownOperation) c.in-AddDependency.is (c.requires.clear.1 refusal.UnknownOperation) in
    some_is (get P.operations c.in-AddDependency.predecessor) known.0.0 known.0.1

pub graph_with-requires-clause-second : goal.graph_with-requires-clause-second
graph_with-requires-clause-second c =
    let P = c.args.uncounted.now.contents.now in
    let known = subst (λ (w : What). MayBeDone P c.requires.clear.0 w refusal.UnknownOperation) c.in-AddDependency.is (c.requires.clear.1 refusal.UnknownOperation) in
    some_is (get P.operations c.in-AddDependency.successor) known.1.0 known.1.1

pub returns-in-AddDependency-clause-graph : goal.returns-in-AddDependency-clause-graph
returns-in-AddDependency-clause-graph c =
    let P = c.args.uncounted.now.contents.now in
    let Q = c.args.new.now.contents.now in
    let change = subst (λ (w : What). Changes P w Q) c.in-AddDependency.is c.requires.made.changes in
    subst (λ (R : Contents). IfOk c.graph_with.result (λ (g : Digraph). IsGraphFor R g)) (sym change) c.graph_with.ensures.graph
