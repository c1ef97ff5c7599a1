use Rattle.std.proofs.Common.{◌≡◌, ◌∙◌, ◌<◌, sym, ap, subst, ℕ, List, true, replicate, Contains}
use Rattle.std.proofs.lemmas.Result.{IfOk-weaker}
use Rattle.plan_basics.proofs.Members.{all_by_members}
use Rattle.graph_paths.proofs.Ways.{reached_are, reached_node}
use Rattle.graph_paths.proofs.returns.way.reached_from.Goals as goal

pub flags_of-requires : goal.flags_of-requires
flags_of-requires c =
    let g = c.args.graph.now in
    let live : c.deref.result.now ≡ replicate g.nodes true = c.deref.ensures.value ∙ c.in_ok-live.ensures.items_if_clones_equal (λ y e. e) ∙ ap (λ n. replicate n true) c.nodes.ensures in
    let are = reached_are g c.requires.graph c.deref.result.now live c.args.from c.in-Ok.nodes.items c.in-Ok.ensures.reached in
    all_by_members (λ n. n < c.nodes-in-Ok.result) c.deref-in-Ok.result.now (λ n has.
    subst (λ k. n < k) (sym c.nodes-in-Ok.ensures) (reached_node g c.requires.graph c.args.from n c.requires.from ((are n).0 (subst (λ (xs : List ℕ). Contains xs n) c.deref-in-Ok.ensures.value has))))

pub returns-in-Ok : goal.returns-in-Ok
returns-in-Ok c =
    let g = c.args.graph.now in
    let live : c.deref.result.now ≡ replicate g.nodes true = c.deref.ensures.value ∙ c.in_ok-live.ensures.items_if_clones_equal (λ y e. e) ∙ ap (λ n. replicate n true) c.nodes.ensures in
    let are = reached_are g c.requires.graph c.deref.result.now live c.args.from c.in-Ok.nodes.items c.in-Ok.ensures.reached in
    IfOk-weaker c.flags_of.result _ _ (λ flags h. (
      h.0 ∙ c.nodes-in-Ok.ensures,
      λ n. (
        λ set. (are n).0 (subst (λ (xs : List ℕ). Contains xs n) c.deref-in-Ok.ensures.value ((h.1 n).0 set)),
        λ reached. (h.1 n).1 (subst (λ (xs : List ℕ). Contains xs n) (sym c.deref-in-Ok.ensures.value) ((are n).1 reached)),
      ),
    )) c.flags_of.ensures
