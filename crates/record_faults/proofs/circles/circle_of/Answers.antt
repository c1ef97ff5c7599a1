use Rattle.std.proofs.Common.{◌≡◌, ◌<◌, ℕ, sym, ap, subst, ◌∙◌, arith, length, slice_get, All, Some}
use Rattle.std.specs.List.{AllZip}
use Rattle.std.proofs.lemmas.Option.{slice_get-get_or, slice_get_within}
use Rattle.plan_basics.specs.declared.keys.OpKey.{OpKey}
use Rattle.graph_paths.specs.Returns.{NoneReturns, IsReturn}
use Rattle.record_faults.specs.Circles.{StandsAt}
use Rattle.record_faults.proofs.Circling.{ends_within, edge_at, no_circle, way_stands, circle_is}
use Rattle.record_faults.proofs.circles.circle_of.Goals as goal

pub returning_path-requires : goal.returning_path-requires
returning_path-requires c =
    let keys = c.args.keys.now in
    subst (All (λ (e : ℕ × ℕ). (e.0 < length keys) × (e.1 < length keys))) (sym c.deref.ensures.value) (ends_within keys c.in_ok-edges.edges.items c.in_ok-edges.ensures)

pub returns-in_default : goal.returns-in_default
returns-in_default c =
    let keys = c.args.keys.now in
    let edges = c.in_ok-edges.edges.items in
    let are = c.in_ok-edges.ensures in
    let none : NoneReturns c.deref.result.now = rw c.in_default.is at c.in_ok-found.ensures.found in
    no_circle keys edges are (subst NoneReturns c.deref.ensures.value none)

pub operations_at-requires : goal.operations_at-requires
operations_at-requires c =
    let keys = c.args.keys.now in
    let edges = c.in_ok-edges.edges.items in
    let are = c.in_ok-edges.ensures in
    let told : IsReturn c.deref.result.now c.in-Some.found.place c.in-Some.found.way.items = rw c.in-Some.is at c.in_ok-found.ensures.found in
    let ret = subst (λ es. IsReturn es c.in-Some.found.place c.in-Some.found.way.items) c.deref.ensures.value told in
    subst (All (λ place. (o : OpKey) × StandsAt keys place o)) (sym c.deref-2.ensures.value) (way_stands keys edges are ret.0 c.in-Some.found.way.items ret.1 ret.3)

pub index-edge-requires : goal.index-edge-requires
index-edge-requires c =
    let edges = c.in_ok-edges.edges.items in
    let told : IsReturn c.deref.result.now c.in-Some.found.place c.in-Some.found.way.items = rw c.in-Some.is at c.in_ok-found.ensures.found in
    let ret = subst (λ es. IsReturn es c.in-Some.found.place c.in-Some.found.way.items) c.deref.ensures.value told in
    let within = slice_get_within edges c.in-Some.found.place (ret.0, ret.1) ret.2 in
    omega (arith, within, c.in_ok-edges.edges.ok.0)

pub closing-place-requires-clause-edge : goal.closing-place-requires-clause-edge
closing-place-requires-clause-edge c =
    let keys = c.args.keys.now in
    let edges = c.in_ok-edges.edges.items in
    let are = c.in_ok-edges.ensures in
    let told : IsReturn c.deref.result.now c.in-Some.found.place c.in-Some.found.way.items = rw c.in-Some.is at c.in_ok-found.ensures.found in
    let ret = subst (λ es. IsReturn es c.in-Some.found.place c.in-Some.found.way.items) c.deref.ensures.value told in
    let e = c.index-edge.result.now in
    let within = slice_get_within edges c.in-Some.found.place (ret.0, ret.1) ret.2 in
    let here : slice_get edges c.in-Some.found.place ≡ Some e = slice_get-get_or edges c.in-Some.found.place e within ∙ ap Some (sym c.index-edge.ensures) in
    edge_at keys edges are c.in-Some.found.place e here

pub operation_at-first-requires : goal.operation_at-first-requires
operation_at-first-requires c =
    let keys = c.args.keys.now in
    let edges = c.in_ok-edges.edges.items in
    let are = c.in_ok-edges.ensures in
    let told : IsReturn c.deref.result.now c.in-Some.found.place c.in-Some.found.way.items = rw c.in-Some.is at c.in_ok-found.ensures.found in
    let ret = subst (λ es. IsReturn es c.in-Some.found.place c.in-Some.found.way.items) c.deref.ensures.value told in
    let e = c.index-edge.result.now in
    let within = slice_get_within edges c.in-Some.found.place (ret.0, ret.1) ret.2 in
    let here : slice_get edges c.in-Some.found.place ≡ Some e = slice_get-get_or edges c.in-Some.found.place e within ∙ ap Some (sym c.index-edge.ensures) in
    let is = edge_at keys edges are c.in-Some.found.place e here in
    (is.0, is.2)

pub returns : goal.returns
returns c =
    let keys = c.args.keys.now in
    let edges = c.in_ok-edges.edges.items in
    let are = c.in_ok-edges.ensures in
    let told : IsReturn c.deref.result.now c.in-Some.found.place c.in-Some.found.way.items = rw c.in-Some.is at c.in_ok-found.ensures.found in
    let ret = subst (λ es. IsReturn es c.in-Some.found.place c.in-Some.found.way.items) c.deref.ensures.value told in
    let e = c.index-edge.result.now in
    let within = slice_get_within edges c.in-Some.found.place (ret.0, ret.1) ret.2 in
    let here : slice_get edges c.in-Some.found.place ≡ Some e = slice_get-get_or edges c.in-Some.found.place e within ∙ ap Some (sym c.index-edge.ensures) in
    let all = subst (λ places. AllZip (StandsAt keys) places c.in_ok-way.way.items) c.deref-2.ensures.value c.in_ok-way.ensures in
    circle_is keys edges are c.in-Some.found.place c.in-Some.found.way.items e c.in_ok-way.way.items c.closing-place.result c.operation_at-first.result ret here all (c.closing-place.ensures c.operation_at-first.result c.operation_at-first.ensures)
