use Rattle.std.proofs.Common.{◌≡◌, ◌∙◌, arith, ap, sym, subst, ℕ, List, length, replicate, false, true, get_or, Contains, length-set}
use Rattle.std.proofs.lemmas.List.{length-replicate, take_all}
use Rattle.graph_paths.proofs.Ways.{flags_begun, flags_more}
use Rattle.graph_paths.proofs.returns.way.flags_of.Goals as goal

pub loop-node-init : goal.loop-node-init
loop-node-init c =
    let is : c.in_ok-flags.flags.items ≡ replicate c.args.count false = c.in_ok-flags.ensures.items_if_clones_equal (λ y e. e) in
    record { size = ap length is ∙ length-replicate c.args.count false; set = flags_begun c.args.count c.in_ok-flags.flags.items c.args.nodes.now is }

pub loop-node-preserved : goal.loop-node-preserved
loop-node-preserved c =
    let flags = c.loop-node.flags.items in
    let nodes = c.args.nodes.now in
    let i = c.loop-node.node-index in
    record {
      size = length-set flags (get_or nodes i 0) true ∙ c.loop-node.invariant.size;
      set = flags_more flags nodes i c.loop-node-test.true (omega (arith, c.loop-node.invariant.size, c.requires i 0 c.loop-node-test.true)) c.loop-node.invariant.set;
    }

pub returns : goal.returns
returns c = (
  c.loop-node.invariant.size,
  λ n. let all = take_all c.loop-node.node-index c.args.nodes.now (omega (arith, c.loop-node-test.false)) in
      ((λ set. subst (λ (xs : List ℕ). Contains xs n) all ((c.loop-node.invariant.set n).0 set)), λ has. (c.loop-node.invariant.set n).1 (subst (λ (xs : List ℕ). Contains xs n) (sym all) has)),
)
