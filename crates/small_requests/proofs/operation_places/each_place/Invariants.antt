use Rattle.std.proofs.Common.{◌≡◌, ◌++◌, Some, drop, map, slice_get}
use Rattle.std.specs.FinMap.{keys}
use Rattle.small_requests.proofs.operation_places.each_place.Given as goal

-- the indices so far, and those of the keys that are left, are all
abbrev pub invariant-loop-key : goal.invariant-loop-key
invariant-loop-key l = map (slice_get (keys l.uncounted.contents.now.operations)) l.places.items ++ map Some (drop l.key-index l.keys) ≡ map Some l.keys
