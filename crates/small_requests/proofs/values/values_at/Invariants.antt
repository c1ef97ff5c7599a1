use Rattle.std.proofs.Common.{◌≡◌, Contains, map, take}
use Rattle.small_requests.specs.Values.{AreValuesAt}
use Rattle.small_requests.proofs.values.values_at.Given as goal

-- the values of the places so far
abbrev pub invariant-loop-place : goal.invariant-loop-place
invariant-loop-place g l = record {
  values : AreValuesAt l.list (Contains (take l.place-index l.places)) l.values.items;
  in_order : map (λ e. e.0) l.values.items ≡ take l.place-index l.places;
}
