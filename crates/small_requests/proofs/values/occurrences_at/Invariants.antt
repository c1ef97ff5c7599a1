use Rattle.std.proofs.Common.{◌<◌, ℕ, All, Contains, length, take}
use Rattle.std.specs.FinMap.{entries}
use Rattle.plan_rows.specs.Touched.{HasOneOf}
use Rattle.small_requests.proofs.values.occurrences_at.Given as goal

-- the occurrences of the operations so far
abbrev pub invariant-loop-place : goal.invariant-loop-place
invariant-loop-place l = record {
  within : All (λ p. p < length (entries l.uncounted.contents.now.occurrences)) l.all.items;
  each : (p : ℕ) → HasOneOf l.uncounted.contents.now (take l.place-index l.places) p → Contains l.all.items p;
}
