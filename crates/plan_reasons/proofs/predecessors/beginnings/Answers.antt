use Rattle.std.proofs.Common.{◌≡◌, ◌<◌, ◌↔◌, arith, sym, subst, ◌∙◌, All, Contains, length}
use Rattle.std.specs.FinMap.{entries}
use Rattle.std.proofs.lemmas.List.{length-map}
use Rattle.plan_basics.proofs.Members.{all_by_members}
use Rattle.plan_basics.specs.declared.keys.OpKey.{OpKey}
use Rattle.plan_model.specs.Contents.{Operation}
use Rattle.plan_core.specs.plan_status.proofs.RowKeys.{key_of_row}
use Rattle.graph_paths.proofs.Backwards.{upstream_within}
use Rattle.graph_paths.specs.Upstream.{IsSource}
use Rattle.plan_reasons.specs.Places.{AreAt}
use Rattle.plan_reasons.proofs.Waits.{all_roots}
use Rattle.plan_reasons.proofs.predecessors.beginnings.Goals as goal

pub unsatisfied_at_each-requires : goal.unsatisfied_at_each-requires
unsatisfied_at_each-requires c =
    let rows = entries c.args.loaded.now.operations in
    let g = c.graph.result.now in
    let size : g.nodes ≡ length rows = c.graph.ensures.nodes ∙ length-map rows (λ (row : OpKey × Operation). row.0) in
    let from : c.args.place < g.nodes = omega (arith, c.requires.place, size) in
    subst (All (λ p. p < length rows)) (sym c.deref-2.ensures.value)
    (all_by_members (λ p. p < length rows) c.in_ok-places.places.items (λ p has.
    let low = upstream_within g c.graph.ensures.graph c.deref.result.now c.args.place p from ((c.in_ok-places.ensures.nodes p).0 has).0 in omega (arith, low, size)))

pub returns-clause-roots : goal.returns-clause-roots
returns-clause-roots c o at =
    let P = c.args.loaded.now in
    let g = c.graph.result.now in
    let places = c.in_ok-places.places.items in
    let found = c.in_ok-unsatisfied_at_each.field-0.items in
    let flags = c.deref.ensures.value ∙ c.in_ok-flags.ensures in
    let are_at = subst (λ ps. AreAt P ps found) c.deref-2.ensures.value c.in_ok-unsatisfied_at_each.ensures in
    all_roots P c.read_for_proof.ensures.valid g c.graph.ensures c.statuses.result.now c.statuses.ensures c.args.place o (key_of_row (entries P.operations) c.args.place o at.0 at.1) (c.requires.waits o at)
    places c.in_ok-places.ensures.in_order found are_at (λ n. subst (λ fs. Contains places n ↔ IsSource g fs c.args.place n) flags (c.in_ok-places.ensures.nodes n))
