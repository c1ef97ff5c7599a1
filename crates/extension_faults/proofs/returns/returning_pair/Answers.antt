use Rattle.std.proofs.Common.{◌≡◌, ◌<◌, ◌∙◌, ℕ, sym, ap, subst, arith, length, All, List}
use Rattle.std.specs.List.{AllZip}
use Rattle.graph_paths.specs.Returns.{IsFirstToReturn, IsReturn, NoneReturns}
use Rattle.plan_basics.specs.declared.keys.OpKey.{OpKey}
use Rattle.plan_drafts.specs.declared.RowKey.TheVariants as key
use Rattle.record_faults.specs.Sayings.{PlacedKeys, IsGiven}
use Rattle.extension_faults.proofs.Numbered.{all_numbered, closes_at, edges_within, none_by_operations, way_there}
use Rattle.extension_faults.proofs.returns.returning_pair.Goals as goal

pub edges_of-requires : goal.edges_of-requires
edges_of-requires c =
    all_numbered c.deref.result.now c.in_ok-numbers.numbers c.in_ok-numbers.ensures c.args.pairs.now (c.deref.ensures.value ∙ c.in_ok-ends.ensures)

pub returning_path-requires : goal.returning_path-requires
returning_path-requires c =
    let long : length c.deref.result.now ≡ length c.in_ok-ends.ends.items = ap (λ (ends : PlacedKeys). length ends) c.deref.ensures.value in
    let size : c.len.result ≡ length c.deref.result.now = omega (arith, long, c.len.ensures, c.in_ok-ends.ends.ok.0) in
    subst (All (λ (e : ℕ × ℕ). (e.0 < c.len.result) × (e.1 < c.len.result))) (sym c.deref-2.ensures.value)
    (edges_within c.deref.result.now c.in_ok-numbers.numbers c.in_ok-numbers.ensures c.args.pairs.now c.in_ok-edges.edges.items c.in_ok-edges.ensures c.len.result size)

pub returns-in_default : goal.returns-in_default
returns-in_default c =
    let none : NoneReturns c.deref-2.result.now = rw c.in_default.is at c.in_ok-found.ensures.found in
    none_by_operations c.deref.result.now c.in_ok-numbers.numbers c.in_ok-numbers.ensures c.args.pairs.now c.in_ok-edges.edges.items c.in_ok-edges.ensures (subst NoneReturns c.deref-2.ensures.value none)

pub operations_at-requires : goal.operations_at-requires
operations_at-requires c =
    let told : IsReturn c.deref-2.result.now c.in-Some.found.place c.in-Some.found.way.items = rw c.in-Some.is at c.in_ok-found.ensures.found in
    let ret = subst (λ (es : List (ℕ × ℕ)). IsReturn es c.in-Some.found.place c.in-Some.found.way.items) c.deref-2.ensures.value told in
    let way = way_there c.deref.result.now c.in_ok-numbers.numbers c.in_ok-numbers.ensures c.args.pairs.now c.in_ok-edges.edges.items c.in_ok-edges.ensures ret.0 c.in-Some.found.way.items ret.1 ret.3 in
    subst (λ (ends : PlacedKeys). All (λ place. (o : OpKey) × IsGiven ends (key.Operation o) place) c.deref-4.result.now) (c.deref.ensures.value ∙ sym c.deref-3.ensures.value)
    (subst (All (λ place. (o : OpKey) × IsGiven c.deref.result.now (key.Operation o) place)) (sym c.deref-4.ensures.value) way)

pub returns : goal.returns
returns c =
    let edges = c.in_ok-edges.edges.items in
    let place = c.in-Some.found.place in
    let told : IsReturn c.deref-2.result.now place c.in-Some.found.way.items = rw c.in-Some.is at c.in_ok-found.ensures.found in
    let ret = subst (λ (es : List (ℕ × ℕ)). IsReturn es place c.in-Some.found.way.items) c.deref-2.ensures.value told in
    let begun : IsFirstToReturn c.deref-2.result.now place = rw c.in-Some.is at c.in_ok-found.ensures.first in
    let first = subst (λ (es : List (ℕ × ℕ)). IsFirstToReturn es place) c.deref-2.ensures.value begun in
    let stands = λ (ends : PlacedKeys) (n : ℕ) (o : OpKey). IsGiven ends (key.Operation o) n in
    let at_places = subst (λ (places : List ℕ). AllZip (stands c.deref-3.result.now) places c.in_ok-way.way.items) c.deref-4.ensures.value c.in_ok-way.ensures in
    let at = subst (λ (ends : PlacedKeys). AllZip (stands ends) c.in-Some.found.way.items c.in_ok-way.way.items) (c.deref-3.ensures.value ∙ sym c.deref.ensures.value) at_places in
    closes_at c.deref.result.now c.in_ok-numbers.numbers c.in_ok-numbers.ensures c.args.pairs.now edges c.in_ok-edges.ensures place c.in-Some.found.way.items c.in_ok-way.way.items ret first at
