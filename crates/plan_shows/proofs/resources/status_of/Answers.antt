use Rattle.std.proofs.Common.{◌≡◌, ◌<◌, sym, ap, subst, length, slice_get, Some, true, is_some}
use Rattle.std.specs.FinMap.{contains_key, entries}
use Rattle.plan_model.specs.Contents.{Contents}
use Rattle.plan_shows.proofs.resources.status_of.Goals as goal

pub known_operation_place-requires : goal.known_operation_place-requires
known_operation_place-requires c = subst (λ (Q : Contents). contains_key Q.operations c.args.key.now ≡ true) (sym c.contents.ensures.contents) (ap is_some c.requires.1)

pub status_at-requires : goal.status_at-requires
status_at-requires c = subst (λ (Q : Contents). c.known_operation_place.result < length (entries Q.operations)) c.contents.ensures.contents c.known_operation_place.ensures.within

pub returns : goal.returns
returns c =
    let at = c.known_operation_place.ensures.at in
    c.status_at.ensures c.args.key.now at.0
    (subst (λ (Q : Contents). slice_get (entries Q.operations) c.known_operation_place.result ≡ Some (c.args.key.now, at.0)) c.contents.ensures.contents at.1)
