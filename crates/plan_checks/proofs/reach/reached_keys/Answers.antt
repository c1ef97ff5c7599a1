use Rattle.std.proofs.Common.{◌≡◌, ◌<◌, sym, subst, ◌∙◌, All, List, ℕ, true, length, map, slice_get, Some, Bool}
use Rattle.std.specs.FinMap.{contains_key, entries, get, keys}
use Rattle.operation_graph.specs.Graphs.{AreExactly, HasEdge, IsSet}
use Rattle.operation_graph.specs.Paths.{ReachesBy}
use Rattle.plan_drafts.proofs.Tables.{some_is}
use Rattle.plan_drafts.specs.PlanGraphs.{StandAt}
use Rattle.plan_model.specs.Contents.{Contents, Operation}
use Rattle.derived_figures.specs.plan_status.proofs.RowKeys.{key_of_row}
use Rattle.plan_checks.proofs.ReachedKeys.{reached_among, reached_within}
use Rattle.plan_checks.proofs.reach.reached_keys.Goals as goal
use Rattle.plan_checks.specs.Reach.{is_live_status}

pub known_operation_place-place-requires : goal.known_operation_place-place-requires
known_operation_place-place-requires c =
    subst (λ (P : Contents). contains_key P.operations c.args.key.now ≡ true) (sym c.uncounted-uncounted.ensures.contents) (some_is (get c.args.outline.now.operations c.args.key.now) c.requires.0 c.requires.1)

pub keys_at-requires : goal.keys_at-requires
keys_at-requires c =
    let P = c.args.outline.now in
    let same = c.uncounted-uncounted.ensures.contents in
    let place = c.known_operation_place-place.result in
    let places = c.in_ok-places.places.items in
    let lt : place < length (entries P.operations) = subst (λ (Q : Contents). place < length (entries Q.operations)) same c.known_operation_place-place.ensures.within in
    let within = reached_within P c.uncounted-uncounted.ensures.sound.valid c.graph.result.now c.graph.ensures (IsSet c.deref.result.now) place places lt c.in_ok-places.ensures.reached in
    subst (λ (ps : List ℕ). All (λ p. p < length (entries c.uncounted-uncounted.result.contents.now.operations)) ps) (sym c.deref-2.ensures.value)
    (subst (λ (Q : Contents). All (λ p. p < length (entries Q.operations)) places) (sym same) within)

pub returns-clause-reached : goal.returns-clause-reached
returns-clause-reached c o =
    let P = c.args.outline.now in
    let g = c.graph.result.now in
    let rows = entries P.operations in
    let place = c.known_operation_place-place.result in
    let places = c.in_ok-places.places.items in
    let statuses = c.statuses.result.now in
    let key = c.args.key.now in
    let found = c.in_ok-keys_at.field-0.items in
    let same = c.uncounted-uncounted.ensures.contents in
    let row = subst (λ (Q : Contents). (op : Operation) × (slice_get (entries Q.operations) place ≡ Some (key, op))) same c.known_operation_place-place.ensures.at in
    let flags : c.deref.result.now ≡ map is_live_status statuses = c.deref.ensures.value ∙ c.in_ok-live.ensures in
    let exactly : AreExactly (ReachesBy (HasEdge g) (IsSet (map is_live_status statuses)) place) places =
    subst (λ (fs : List Bool). AreExactly (ReachesBy (HasEdge g) (IsSet fs) place) places) flags c.in_ok-places.ensures.reached in
    let stand : StandAt (keys P.operations) places found =
    subst (λ (ps : List ℕ). StandAt (keys P.operations) ps found) c.deref-2.ensures.value
    (subst (λ (Q : Contents). StandAt (keys Q.operations) c.deref-2.result.now found) same c.in_ok-keys_at.ensures) in
    reached_among P c.uncounted-uncounted.ensures.sound.valid g c.graph.ensures statuses c.statuses.ensures place key places found c.requires (key_of_row rows place key row.0 row.1) exactly stand o
