use Rattle.std.proofs.Common.{sym, subst, rules, arith}
use Rattle.std.specs.FinSet.{from_list}
use Rattle.std.specs.List.Sorted.{IsStrictlySortedBy}
use Rattle.plan_model.specs.Contents.{pair_cmp}
use Rattle.plan_model.specs.Valid.{IsAcyclic}
use Rattle.plan_drafts.specs.PlanGraphs.{AreAmong, IsGraphOf}
use Rattle.plan_drafts.specs.KeyOrder.{AreInKeyOrder}
use Rattle.plan_denotation.proofs.InOrder.{no_pairs_in_order, pairs_are, within_in_order}
use Rattle.plan_drafts.proofs.Orders.{map_same}
use Rattle.plan_denotation.proofs.in_order.pairs_in_order.Goals as goal
use Rattle.plan_denotation.proofs.in_order.pairs_in_order.Goals.{In-Some}

-- the pairs in order
ordered : (c : In-Some) → AreInKeyOrder pair_cmp (λ pair. pair) c.args.pairs.items c.in-Some.pairs.items
ordered c = rw c.in-Some.is at c.in_ok-pairs.ensures (λ pair. pair) (λ x r h. search rules)

-- they ascend
up : (c : In-Some) → IsStrictlySortedBy pair_cmp c.in-Some.pairs.items
up c = subst (IsStrictlySortedBy pair_cmp) (map_same c.in-Some.pairs.items) (ordered c).in_order

pub returns-in_default : goal.returns-in_default
returns-in_default c = λ are. (rw c.in_default.is at c.in_ok-pairs.ensures (λ pair. pair) (λ x r h. search rules)) are.distinct

pub graph_among-requires-clause-pairs : goal.graph_among-requires-clause-pairs
graph_among-requires-clause-pairs c = subst (IsStrictlySortedBy pair_cmp) (sym c.deref.ensures.value) (up (goal.at.graph_among-requires-clause-pairs c).In-Some)

pub returns-in_default-2 : goal.returns-in_default-2
returns-in_default-2 c =
    let at = (goal.at.returns-in_default-2 c).In-Some in
    let none = rw c.in_default-2.is at c.in_ok-graph.ensures in
    no_pairs_in_order c.args.keys.now c.args.pairs.items c.in-Some.pairs.items (ordered at).same
    (subst (λ ps. ¬ (AreAmong c.args.keys.now ps × IsAcyclic (from_list {R = pair_cmp} ps))) c.deref.ensures.value none)

pub returns : goal.returns
returns c =
    let at = (goal.at.returns c).In-Some in
    let made = rw c.in-Some-2.is at c.in_ok-graph.ensures in
    let among = subst (AreAmong c.args.keys.now) c.deref.ensures.value made.1 in (
      pairs_are c.args.keys.now c.args.pairs.items c.in-Some.pairs.items (ordered at).same (omega (arith, c.args.pairs.ok.0))
          (within_in_order c.args.keys.now c.args.pairs.items c.in-Some.pairs.items (ordered at).same among) (ordered at).distinct (up at)
          (subst (λ ps. IsAcyclic (from_list {R = pair_cmp} ps)) c.deref.ensures.value made.2),
      subst (λ ps. IsGraphOf c.args.keys.now (from_list {R = pair_cmp} ps) c.in-Some-2.graph) c.deref.ensures.value made.0,
    )
