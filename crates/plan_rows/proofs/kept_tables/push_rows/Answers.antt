use Rattle.std.proofs.Common.{◌≡◌, ◌∙◌, sym, ap, subst, refl, arith, ◌<◌, ◌++◌, get_or, length, slice_get, Some}
use Rattle.std.proofs.Math.Nat.{mul-add}
use Rattle.std.proofs.lemmas.List.Elements.{Contains-get_or}
use Rattle.std.specs.Map.{keys_of}
use Rattle.plan_model.specs.Contents.{Contents}
use Rattle.plan_rows.proofs.AddedRows.{all_added, all_themselves, itself, none_added, one_added}
use Rattle.plan_rows.proofs.kept_tables.push_rows.Goals as goal
use Rattle.plan_rows.specs.Rows.{rows_of}
use Rattle.plan_rows.specs.Sources.{IsSource, source_with}

pub loop-place-init : goal.loop-place-init
loop-place-init g c = record {
  contents = refl;
  fewest = omega arith;
  most = omega arith;
  added = none_added itself (rows_of (g.T.Tabled.keyed (source_with c.args.records.now.contents c.args.columns))) c.args.places.now c.args.rows.now.items;
}

pub seen-requires-clause-source : goal.seen-requires-clause-source
seen-requires-clause-source g c = subst (λ (P : Contents). IsSource (source_with P c.args.columns)) (sym c.loop-place.invariant.contents) c.requires.source

pub seen-requires-clause-within : goal.seen-requires-clause-within
seen-requires-clause-within g c =
    let place = get_or c.args.places.now c.loop-place.place-index 0 in
    subst (λ (P : Contents). place < length (keys_of (g.T.Tabled.keyed (source_with P c.args.columns)))) (sym c.loop-place.invariant.contents)
    (c.requires.within place (Contains-get_or c.args.places.now c.loop-place.place-index 0 c.loop-place-test.true))

pub loop-place-preserved : goal.loop-place-preserved
loop-place-preserved g c =
    let inv = c.loop-place.invariant in
    let xs = rows_of (g.T.Tabled.keyed (source_with c.args.records.now.contents c.args.columns)) in
    let places = c.args.places.now in
    let k = c.loop-place.place-index in
    let a = g.T.Noted.looks in
    let next = mul-add a k 1 in
    let seen = c.seen.ensures in
    let there = subst (λ (P : Contents). slice_get (rows_of (g.T.Tabled.keyed (source_with P c.args.columns))) (get_or places k 0) ≡ Some c.seen.result) inv.contents seen.row in
    record {
      contents = seen.contents ∙ inv.contents;
      fewest = omega (arith, seen.fewest, inv.fewest);
      most = omega (arith, seen.most, inv.most, next);
      added = one_added itself xs places c.args.rows.now.items k c.loop-place.rows.items c.push.new.self.items c.seen.result c.loop-place-test.true inv.added there c.in_ok-push.ensures.items;
    }

pub returns-clause-rows : goal.returns-clause-rows
returns-clause-rows g c =
    let xs = rows_of (g.T.Tabled.keyed (source_with c.args.records.now.contents c.args.columns)) in
    let (found, at, is) = all_added itself xs c.args.places.now c.args.rows.now.items c.loop-place.place-index c.loop-place.rows.items c.loop-place-test.false c.loop-place.invariant.added in
    (found, at, is ∙ ap (λ rs. c.args.rows.now.items ++ rs) (all_themselves found))
