use Rattle.std.proofs.Common.{◌≡◌, ◌∙◌, sym, ap, ◌++◌, get_or, map, option_map, slice_get, Some}
use Rattle.std.proofs.lemmas.List.Elements.{Contains-get_or}
use Rattle.std.proofs.lemmas.Option.{slice_get-map}
use Rattle.std.specs.Map.{keys_of}
use Rattle.plan_rows.proofs.AddedRows.{all_added, all_themselves, itself, none_added, one_added}
use Rattle.plan_rows.proofs.kept_tables.push_keys.Goals as goal
use Rattle.plan_rows.specs.Rows.{if_any}
use Rattle.plan_rows.specs.Sources.{source_if_any}

pub loop-place-init : goal.loop-place-init
loop-place-init g c = none_added itself (map g.T.Tabled.name (keys_of (if_any g.T.Tabled.keyed (source_if_any c.args.source)))) c.args.places.now c.args.keys.now.items

pub key-requires-clause-within : goal.key-requires-clause-within
key-requires-clause-within g c = c.requires.within (get_or c.args.places.now c.loop-place.place-index 0) (Contains-get_or c.args.places.now c.loop-place.place-index 0 c.loop-place-test.true)

pub loop-place-preserved : goal.loop-place-preserved
loop-place-preserved g c =
    let ks = keys_of (if_any g.T.Tabled.keyed (source_if_any c.args.source)) in
    let name = g.T.Tabled.name in
    let places = c.args.places.now in
    let k = c.loop-place.place-index in
    let i = get_or places k 0 in
    let there : slice_get (map name ks) i ≡ Some c.named.result = slice_get-map name ks i ∙ ap (option_map name) c.key.ensures ∙ ap Some (sym c.named.ensures) in
    one_added itself (map name ks) places c.args.keys.now.items k c.loop-place.keys.items c.push.new.self.items c.named.result c.loop-place-test.true c.loop-place.invariant there c.in_ok-push.ensures.items

pub returns : goal.returns
returns g c =
    let xs = map g.T.Tabled.name (keys_of (if_any g.T.Tabled.keyed (source_if_any c.args.source))) in
    let (found, at, is) = all_added itself xs c.args.places.now c.args.keys.now.items c.loop-place.place-index c.loop-place.keys.items c.loop-place-test.false c.loop-place.invariant in
    (found, at, is ∙ ap (λ ks. c.args.keys.now.items ++ ks) (all_themselves found))
