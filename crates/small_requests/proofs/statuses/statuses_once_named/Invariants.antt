use Rattle.std.proofs.Common.{take}
use Rattle.small_requests.specs.Effects.{AreStatusesOnceNamed}
use Rattle.small_requests.proofs.statuses.statuses_once_named.Given as goal

-- the statuses of the places so far
abbrev pub invariant-loop-place : goal.invariant-loop-place
invariant-loop-place l = AreStatusesOnceNamed l.statuses (take l.place-index l.places) l.named l.values.items
