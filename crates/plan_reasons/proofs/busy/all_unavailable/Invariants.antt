use Rattle.std.proofs.Common.{◌≡◌, ◌++◌, drop}
use Rattle.std.specs.List.{filter_map}
use Rattle.plan_reasons.specs.Places.{unavailable_of}
use Rattle.plan_reasons.proofs.busy.all_unavailable.Given as goal

-- the reasons so far, and those of the needs that are left, are all
abbrev pub invariant-loop-need : goal.invariant-loop-need
invariant-loop-need l = l.reasons.items ++ filter_map (unavailable_of l.contents.resources) (drop l.need-index l.need-items) ≡ filter_map (unavailable_of l.contents.resources) l.need-items
