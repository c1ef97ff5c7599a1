use Rattle.std.proofs.Common.{sym, subst, ap, ◌∙◌}
use Rattle.std.specs.FinSet.{from_list}
use Rattle.std.specs.Map.{keys_of}
use Rattle.plan_model.specs.Valid.{IsAcyclic}
use Rattle.plan_laws.specs.plan_drafts.specs.PlanGraphs.{IsGraphOf}
use Rattle.plan_laws.specs.plan_drafts.proofs.InOrder.{ends_known, told_by}
use Rattle.plan_status.proofs.graphs.graph_for.Goals as goal

pub graph_of-requires-clause-ends : goal.graph_of-requires-clause-ends
graph_of-requires-clause-ends c =
    let listed = c.deref.ensures.value ∙ c.in_ok-keys.ensures ∙ ap keys_of c.operations.ensures.rows in
    ends_known c.args.contents.now c.deref.result.now c.pairs.result.now listed c.pairs.ensures.pairs c.operations.ensures.valid.pairs

pub unwrap-requires : goal.unwrap-requires
unwrap-requires c =
    let pairs = c.pairs.result.now in
    let acyclic = subst IsAcyclic (sym c.pairs.ensures.pairs) c.operations.ensures.valid.acyclic in
    (told_by (IsAcyclic (from_list pairs)) (IsGraphOf c.deref.result.now (from_list pairs)) c.in_ok-graph.graph c.in_ok-graph.ensures).1 acyclic

pub returns : goal.returns
returns c =
    let listed = c.deref.ensures.value ∙ c.in_ok-keys.ensures ∙ ap keys_of c.operations.ensures.rows in
    let made = rw c.unwrap.ensures at c.in_ok-graph.ensures in
    subst (λ ks. IsGraphOf ks c.args.contents.now.pairs c.unwrap.result) listed
    (subst (λ ps. IsGraphOf c.deref.result.now ps c.unwrap.result) c.pairs.ensures.pairs made.0)
