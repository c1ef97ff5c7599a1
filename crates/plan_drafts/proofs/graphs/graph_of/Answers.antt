use Rattle.std.proofs.Common.{MatchOption}
use Rattle.std.proofs.lemmas.Result.{IfOk-weaker}
use Rattle.std.specs.FinSet.{from_list}
use Rattle.plan_model.specs.Contents.{pair_cmp}
use Rattle.plan_model.specs.Valid.{IsAcyclic}
use Rattle.plan_drafts.specs.PlanGraphs.{AreAmong, IsGraphOf}
use Rattle.plan_drafts.proofs.InOrder.{known_so}
use Rattle.plan_drafts.proofs.graphs.graph_of.Goals as goal

pub returns : goal.returns
returns c =
    let keys = c.args.keys.now in
    let pairs = from_list {R = pair_cmp} c.args.pairs.now in
    IfOk-weaker c.graph_among.result
    (λ found. MatchOption found (¬ (AreAmong keys c.args.pairs.now × IsAcyclic pairs)) (λ g. IsGraphOf keys pairs g × AreAmong keys c.args.pairs.now × IsAcyclic pairs))
    (λ found. MatchOption found (¬ IsAcyclic pairs) (λ g. IsGraphOf keys pairs g × IsAcyclic pairs))
    (known_so (AreAmong keys c.args.pairs.now) (IsAcyclic pairs) (IsGraphOf keys pairs) c.requires.ends) c.graph_among.ensures
