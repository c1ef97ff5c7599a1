use Rattle.std.proofs.Common.{refl, ap, ◌∙◌, ◌++◌, [], ◌∷◌, get_or, take}
use Rattle.std.proofs.lemmas.List.{map-append, take_more}
use Rattle.std.proofs.lemmas.Option.{slice_get_read}
use Rattle.small_requests.proofs.Overwritten.{one_value}
use Rattle.small_requests.proofs.values.values_at.Goals as goal

pub loop-place-preserved : goal.loop-place-preserved
loop-place-preserved g c =
    let places = c.args.places.now in
    let n = c.loop-place.place-index in
    let p = get_or places n 0 in
    let x = c.index-list-place.result in
    rw (take_more places n 0 c.loop-place-test.true, c.in_ok-push.ensures.items)
    (record {
      values = one_value c.args.list.now (take n places) c.loop-place.values.items p x c.loop-place.invariant.values (slice_get_read c.args.list.now _ p x refl (c.requires n 0 c.loop-place-test.true) c.index-list-place.is);
      in_order = map-append (λ e. e.0) c.loop-place.values.items ((p, x) ∷ []) ∙ ap (λ ps. ps ++ p ∷ []) c.loop-place.invariant.in_order;
    })
