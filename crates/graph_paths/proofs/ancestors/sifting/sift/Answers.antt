use Rattle.std.proofs.Common.{◌+◌, sym, subst, drop, get_or, true, false, ℕ}
use Rattle.std.proofs.lemmas.List.{drop_all, drop_more}
use Rattle.std.specs.declared.alloc.Global.{Global}
use Rattle.std.specs.declared.vec.Vec.{Vec}
use Rattle.graph_paths.specs.Walking.{IsSift}
use Rattle.graph_paths.proofs.Sifts.{sift_kept, sift_passed, sifted_in_order}
use Rattle.graph_paths.proofs.ancestors.sifting.sift.Given as given
use Rattle.graph_paths.proofs.ancestors.sifting.sift.Goals as goal
use Rattle.graph_paths.proofs.ancestors.sifting.sift.Goals.{then-keep+in_ok-push, else-keep}

pub loop-node-preserved : goal.loop-node-preserved
loop-node-preserved g c =
    let passes = λ (n : ℕ). given.F-post g c.args.keep n true in
    let fails = λ (n : ℕ). given.F-post g c.args.keep n false in
    let nodes = c.args.nodes.now in
    let i = c.loop-node.node-index in
    let kept = c.loop-node.kept.items in
    let rest = drop (i + 1) nodes in
    let s = subst (IsSift passes fails nodes kept) (drop_more nodes i 0 c.loop-node-test.true) c.loop-node.invariant in
    elim c.if-keep.branch [
      | then-keep+in_ok-push w ↦
          subst (λ (v : Vec ℕ Global). IsSift passes fails nodes v.items rest) (sym w.kept-is) (rw w.in_ok-push.ensures.items (sift_kept passes fails nodes kept (get_or nodes i 0) rest s (subst (λ b. given.F-post g c.args.keep (get_or nodes i 0) b) w.if-keep.true c.keep.ensures)))
      | else-keep w ↦
          subst (λ (v : Vec ℕ Global). IsSift passes fails nodes v.items rest) (sym w.kept-is) (sift_passed passes fails nodes kept (get_or nodes i 0) rest s (subst (λ b. given.F-post g c.args.keep (get_or nodes i 0) b) w.if-keep.false c.keep.ensures))
    ]

pub returns-clause-in_order : goal.returns-clause-in_order
returns-clause-in_order g c =
    let passes = λ (n : ℕ). given.F-post g c.args.keep n true in
    let fails = λ (n : ℕ). given.F-post g c.args.keep n false in
    let kept = c.loop-node.kept.items in
    sifted_in_order passes fails c.args.nodes.now kept (subst (IsSift passes fails c.args.nodes.now kept) (drop_all c.loop-node.node-index c.args.nodes.now c.loop-node-test.false) c.loop-node.invariant)
