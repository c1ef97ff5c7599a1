use Rattle.std.proofs.Common.{◌≡◌, ◌∙◌, inr, sym, subst, refl, arith, ◌+◌, ◌*◌, ◌<◌, [], get_or, length, slice_get, Some}
use Rattle.std.proofs.Math.Nat.{mul-add}
use Rattle.std.proofs.lemmas.List.Elements.{Contains-get_or}
use Rattle.std.specs.Map.{keys_of}
use Rattle.plan_model.specs.Contents.{Contents}
use Rattle.plan_rows.proofs.Counted.{more_counted}
use Rattle.plan_rows.proofs.PairedLists.{paired_more}
use Rattle.plan_rows.proofs.noted_rows.note_rows.Goals as goal
use Rattle.plan_rows.specs.Notes.{AreNotedAt, IsNotedAt}
use Rattle.plan_rows.specs.Rows.{rows_of}
use Rattle.plan_rows.specs.Sources.{IsSource, source_with}

pub loop-place-init : goal.loop-place-init
loop-place-init g c = record { contents = refl; fewest = omega arith; most = omega arith; least = inr (omega arith); noted = subst (AreNotedAt (rows_of (g.T.Tabled.keyed (source_with c.args.records.now.contents c.args.columns))) []) (sym c.new-notes.ensures.items) tt }

pub seen-row-requires-clause-source : goal.seen-row-requires-clause-source
seen-row-requires-clause-source g c = subst (λ (P : Contents). IsSource (source_with P c.args.columns)) (sym c.loop-place.invariant.contents) c.requires.source

pub seen-row-requires-clause-within : goal.seen-row-requires-clause-within
seen-row-requires-clause-within g c =
    let place = get_or c.args.places.now c.loop-place.place-index 0 in
    subst (λ (P : Contents). place < length (keys_of (g.T.Tabled.keyed (source_with P c.args.columns)))) (sym c.loop-place.invariant.contents)
    (c.requires.within place (Contains-get_or c.args.places.now c.loop-place.place-index 0 c.loop-place-test.true))

pub loop-place-preserved : goal.loop-place-preserved
loop-place-preserved g c =
    let inv = c.loop-place.invariant in
    let rows = rows_of (g.T.Tabled.keyed (source_with c.args.records.now.contents c.args.columns)) in
    let places = c.args.places.now in
    let k = c.loop-place.place-index in
    let a = g.T.Noted.looks in
    let next = mul-add a k 1 in
    let seen = c.seen-row.ensures in
    let there = subst (λ (P : Contents). slice_get (rows_of (g.T.Tabled.keyed (source_with P c.args.columns))) (get_or places k 0) ≡ Some c.seen-row.result) inv.contents seen.row in
    record {
      contents = seen.contents ∙ inv.contents;
      fewest = omega (arith, seen.fewest, inv.fewest);
      most = omega (arith, seen.most, inv.most, next);
      least = more_counted c.args.records.now.looks c.loop-place.records.looks c.seen-row.new.records.looks (a * k) a (a * (k + 1)) inv.least seen.fewest seen.least (omega (arith, next));
      noted = rw c.in_ok-push.ensures.items (paired_more (IsNotedAt rows) places c.loop-place.notes.items k 0 _ c.loop-place-test.true inv.noted (refl, there));
    }
