use Rattle.std.proofs.lemmas.List.Filters.{dedup_is}
use Rattle.std.proofs.lemmas.List.Kept.{Contains-dedup_nat, Contains-from_dedup, IsStrictlySortedBy-dedup}
use Rattle.std.proofs.lemmas.List.Sorted.{Contains-permutation, IsPermutation-sym}
use Rattle.std.specs.Cmp.{nat_cmp_total, unsigned_ties}
use Rattle.small_requests.proofs.KeyedPlaces.{ascending_places}
use Rattle.small_requests.proofs.operation_places.places_of.Goals as goal

pub returns : goal.returns
returns c =
    let is = dedup_is _ _ _ c.dedup.ensures.filtered in
    let moved = c.sort_unstable.ensures.permutation in
    ascending_places c.args.uncounted.now.contents.now c.args.keys.now c.in_ok-places.places.items c.in_ok-places.ensures _
    (rw is (IsStrictlySortedBy-dedup nat_cmp_total unsigned_ties _ c.sort_unstable.ensures.sorted))
    (λ i has. rw is (Contains-dedup_nat _ i (Contains-permutation _ _ i moved has)))
    (λ i has. Contains-permutation _ _ i (IsPermutation-sym _ _ moved) (Contains-from_dedup _ _ i (rw is at has)))
