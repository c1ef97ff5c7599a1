use Rattle.std.specs.FinSet.{from_list}
use Rattle.plan_model.specs.Valid.{IsAcyclic}
use Rattle.plan_drafts.specs.PlanGraphs.{IsGraphOf}
use Rattle.plan_drafts.proofs.InOrder.{told_by}
use Rattle.plan_denotation.proofs.in_order.are_pairs_acyclic.Goals as goal

pub returns : goal.returns
returns c =
    let pairs = from_list c.args.pairs.now in
    rw c.is_some.ensures (told_by (IsAcyclic pairs) (IsGraphOf c.args.keys.now pairs) c.in_ok-graph.graph c.in_ok-graph.ensures)
