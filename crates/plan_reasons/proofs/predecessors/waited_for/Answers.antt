use Rattle.std.proofs.Common.{◌≡◌, ◌<◌, arith, sym, ap, subst, ◌∙◌, All, length, map}
use Rattle.std.specs.FinMap.{entries}
use Rattle.std.proofs.lemmas.List.{length-map}
use Rattle.plan_basics.proofs.Members.{all_by_members}
use Rattle.plan_basics.specs.declared.keys.OpKey.{OpKey}
use Rattle.plan_model.specs.Contents.{Operation}
use Rattle.plan_core.specs.plan_status.proofs.RowKeys.{key_of_row}
use Rattle.plan_reasons.specs.Parts.{AreOfKind}
use Rattle.plan_reasons.specs.Places.{AreAt}
use Rattle.plan_reasons.specs.declared.reasons.Reason.TheVariants as reason
use Rattle.plan_reasons.specs.declared.reasons.Unsatisfied.{Unsatisfied}
use Rattle.plan_reasons.proofs.Waits.{all_waited_for}
use Rattle.plan_reasons.proofs.predecessors.waited_for.Goals as goal

pub unsatisfied_preds-requires : goal.unsatisfied_preds-requires
unsatisfied_preds-requires c =
    let rows = entries c.args.loaded.now.operations in
    let size : c.graph.result.now.nodes ≡ length rows = c.graph.ensures.nodes ∙ length-map rows (λ (row : OpKey × Operation). row.0) in
    let place = c.requires.place in
    omega (arith, place, size)

pub unsatisfied_at_each-requires : goal.unsatisfied_at_each-requires
unsatisfied_at_each-requires c =
    let rows = entries c.args.loaded.now.operations in
    let size : c.graph.result.now.nodes ≡ length rows = c.graph.ensures.nodes ∙ length-map rows (λ (row : OpKey × Operation). row.0) in
    subst (All (λ p. p < length rows)) (sym c.deref.ensures.value)
    (all_by_members (λ p. p < length rows) c.in_ok-places.places.items (λ p has.
    let low = (c.graph.ensures.graph.ends p c.args.place ((c.in_ok-places.ensures.nodes p).0 has).0).0 in omega (arith, low, size)))

pub returns-clause-reasons : goal.returns-clause-reasons
returns-clause-reasons c o op m at =
    let P = c.args.loaded.now in
    let places = c.in_ok-places.places.items in
    let found = c.in_ok-found.found.items in
    let are_at = subst (λ ps. AreAt P ps found) c.deref.ensures.value c.in_ok-found.ensures in
    let all = all_waited_for P c.read_for_proof.ensures.valid c.graph.result.now c.graph.ensures c.statuses.result.now c.statuses.ensures c.args.place o (key_of_row (entries P.operations) c.args.place o op at) (c.requires.waits o (op, at))
    places c.in_ok-places.ensures.in_order found are_at op m c.in_ok-places.ensures.nodes in
    let listed = c.in_ok-reasons_to_wait.ensures ∙ ap (map (λ (x : Unsatisfied). reason.WaitsFor x)) c.deref-2.ensures.value in
    subst (AreOfKind P o op m 1) (sym listed) all
