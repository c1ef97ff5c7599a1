use Rattle.std.proofs.Common.{◌∙◌, ap, sym, subst, Bool, List, length}
use Rattle.std.specs.FinMap.{keys}
use Rattle.operation_graph.specs.Rebuilding.{IsRebuilt}
use Rattle.plan_basics.specs.declared.keys.OpKey.{OpKey}
use Rattle.request_outcomes.proofs.remaining.graph_left.Goals as goal
use Rattle.plan_drafts.proofs.Lists.{length_map}
use Rattle.small_requests.specs.plan_laws.proofs.LeftGraph.{left_graph}
use Rattle.small_requests.specs.counted_records.specs.Leaving.{is_one_of}

pub rebuilt-requires : goal.rebuilt-requires
rebuilt-requires c =
    let test = λ (o : OpKey). is_one_of c.args.staying.now o.occurrence in
    ap length (c.deref.ensures.value ∙ c.in_ok-keep.ensures) ∙ length_map test (keys c.args.uncounted.now.contents.now.operations) ∙ sym c.requires.graph.nodes

pub returns-clause-graph : goal.returns-clause-graph
returns-clause-graph c =
    left_graph c.args.uncounted.now.contents.now (is_one_of c.args.staying.now) c.args.graph.now c.in_ok-graph.graph c.in_ok-graph._numbers.items c.requires.graph
    (subst (λ (keep : List Bool). IsRebuilt c.args.graph.now keep c.in_ok-graph.graph c.in_ok-graph._numbers.items) (c.deref.ensures.value ∙ c.in_ok-keep.ensures) c.in_ok-graph.ensures.rebuilt)
