use Rattle.std.proofs.Common.{◌≡◌, ◌+◌, ◌*◌, ◌≤◌, arith, subst, length, IfOk, OnOk}
use Rattle.std.specs.FinMap.{entries}
use Rattle.operation_graph.specs.Graphs.{Digraph}
use Rattle.request_outcomes.proofs.extending.grown.Goals as goal
use Rattle.request_outcomes.proofs.extending.grown.Goals.{In-Ok}
use Rattle.request_outcomes.specs.Rebuilds.{AreRebuiltPartsOf}
use Rattle.plan_records.specs.Changes.{with_added}
use Rattle.plan_drafts.specs.Contents.{added_of}
use Rattle.plan_drafts.specs.PlanGraphs.{IsGraphFor}
use Rattle.plan_model.specs.Contents.{Contents}
use Rattle.small_requests.specs.plan_changes.proofs.Answered.{if_ok}

-- the records then hold what is left with what is added
grown_is : (c : In-Ok) → c.joined-records.result.0.contents ≡ with_added c.args.left.contents (added_of c.args.parts.now)
grown_is c = subst (λ r. OnOk r (c.joined-records.result.0.contents ≡ with_added c.args.left.contents (added_of c.args.parts.now))) c.in-Ok.is c.joined-records.ensures.contents

pub rebuilt_plan-requires-clause-before : goal.rebuilt_plan-requires-clause-before
rebuilt_plan-requires-clause-before c os chosen = c.requires.in_order

pub rebuilt_plan-requires-clause-graph : goal.rebuilt_plan-requires-clause-graph
rebuilt_plan-requires-clause-graph c = subst (λ r. IfOk r (λ (g : Digraph). IsGraphFor c.joined-records.result.0.contents g)) c.in-Ok.is c.joined-records.ensures.graph

pub returns-in-Ok-clause-rebuilt_parts : goal.returns-in-Ok-clause-rebuilt_parts
returns-in-Ok-clause-rebuilt_parts c =
    let at = (goal.at.returns-in-Ok-clause-rebuilt_parts c).In-Ok in
    subst (λ (Q : Contents). IfOk c.rebuilt_plan.result.rebuilt (λ x. AreRebuiltPartsOf Q c.args.at c.rebuilt_plan.result.records.contents x.rebuilt_parts)) (grown_is at) c.rebuilt_plan.ensures.rebuilt_parts

pub returns-in-Ok-clause-told : goal.returns-in-Ok-clause-told
returns-in-Ok-clause-told c = if_ok c.rebuilt_plan.result.rebuilt (λ x told P are. told P are) c.rebuilt_plan.ensures.told

pub returns-in-Ok-clause-most : goal.returns-in-Ok-clause-most
returns-in-Ok-clause-most c =
    let at = (goal.at.returns-in-Ok-clause-most c).In-Ok in
    let looks = c.joined-records.ensures.looks in
    if_ok c.rebuilt_plan.result.rebuilt (λ x few. omega (arith, few, looks))
    (subst (λ (Q : Contents). IfOk c.rebuilt_plan.result.rebuilt (λ _. c.rebuilt_plan.result.records.looks + 0 ≤ c.joined-records.result.0.looks + 4 * length (entries Q.operations))) (grown_is at) c.rebuilt_plan.ensures.most)
