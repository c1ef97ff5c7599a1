use Rattle.std.proofs.Common.{get_or, take}
use Rattle.std.proofs.lemmas.List.{take_more}
use Rattle.small_requests.proofs.OnceNamed.{one_once}
use Rattle.small_requests.proofs.statuses.statuses_once_named.Goals as goal

pub loop-place-preserved : goal.loop-place-preserved
loop-place-preserved c =
    let places = c.args.places.now in
    let n = c.loop-place.place-index in
    let p = get_or places n 0 in
    rw (take_more places n 0 c.loop-place-test.true, c.in_ok-push.ensures.items)
    (one_once c.args.statuses.now c.args.named.now (take n places) c.loop-place.values.items p c.status_once_named.result c.loop-place.invariant c.status_once_named.ensures)
