use Rattle.std.proofs.Common.{◌≡◌, ◌∙◌, ap, arith, sym, subst, length, slice_get, List, Some}
use Rattle.std.proofs.lemmas.Option.{same_Some, slice_get-get_or, slice_get_within}
use Rattle.graph_paths.specs.Returns.{LeadsBackTo}
use Rattle.plan_basics.specs.declared.keys.OpKey.{OpKey}
use Rattle.plan_drafts.specs.plan_model.specs.operation_graph.specs.Paths.{IsAcyclicBy}
use Rattle.extension_faults.specs.Whole.{ClosesAt, IsListed}
use Rattle.extension_faults.proofs.SaidPairs.{none_beside, way_beside}
use Rattle.extension_faults.proofs.circles.circle_said.Goals as goal

abbrev Pairs : Type 0
Pairs = List (OpKey × OpKey)

pub returns-in_default : goal.returns-in_default
returns-in_default c =
    let none : IsAcyclicBy (IsListed c.deref.result.now) = rw c.in_default.is at c.in_ok-path.ensures in
    none_beside c.args.plan.now.plan.contents c.args.said.now c.in_ok-pairs.pairs.items c.in_ok-pairs.ensures (subst (λ (xs : Pairs). IsAcyclicBy (IsListed xs)) c.deref.ensures.value none)

pub record_of-place-requires-clause-returns : goal.record_of-place-requires-clause-returns
record_of-place-requires-clause-returns c =
    let path = c.in-Some.path in
    let told : ClosesAt c.deref.result.now path.place path.way.items = rw c.in-Some.is at c.in_ok-path.ensures in
    (path.way.items, subst (λ (xs : Pairs). ClosesAt xs path.place path.way.items) (c.deref.ensures.value ∙ sym c.deref-2.ensures.value) told)

pub index-requires : goal.index-requires
index-requires c =
    let path = c.in-Some.path in
    let told : ClosesAt c.deref.result.now path.place path.way.items = rw c.in-Some.is at c.in_ok-path.ensures in
    let within = slice_get_within c.deref.result.now path.place (told.0, told.1) told.2 in
    let long : length c.deref.result.now ≡ length c.in_ok-pairs.pairs.items = ap (λ (xs : Pairs). length xs) c.deref.ensures.value in
    omega (arith, within, long, c.in_ok-pairs.pairs.ok.0)

pub returns : goal.returns
returns c =
    let P = c.args.plan.now.plan.contents in
    let pairs = c.in_ok-pairs.pairs.items in
    let path = c.in-Some.path in
    let pair = c.index.result.now in
    let told : ClosesAt c.deref.result.now path.place path.way.items = rw c.in-Some.is at c.in_ok-path.ensures in
    let closes : ClosesAt pairs path.place path.way.items = subst (λ (xs : Pairs). ClosesAt xs path.place path.way.items) c.deref.ensures.value told in
    let within = slice_get_within pairs path.place (closes.0, closes.1) closes.2 in
    let at : slice_get pairs path.place ≡ Some pair = slice_get-get_or pairs path.place pair within ∙ ap Some (sym c.index.ensures) in
    let same : ◌≡◌ {A = OpKey × OpKey} (closes.0, closes.1) pair = same_Some (closes.0, closes.1) pair (sym closes.2 ∙ at) in
    let back = subst (λ (x : OpKey × OpKey). LeadsBackTo (IsListed pairs) x.0 path.way.items x.1) same closes.3 in
    let there : slice_get c.deref-2.result.now path.place ≡ Some pair = ap (λ (xs : Pairs). slice_get xs path.place) c.deref-2.ensures.value ∙ at in
    (pair.1, c.record_of-place.ensures c.args.said.now c.in_ok-index.ensures pair.0 pair.1 there, way_beside P c.args.said.now pairs c.in_ok-pairs.ensures pair.0 path.way.items pair.1 back)
