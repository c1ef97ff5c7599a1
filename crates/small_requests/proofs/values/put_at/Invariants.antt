use Rattle.std.proofs.Common.{◌≡◌, drop, length}
use Rattle.plan_checks.specs.derived_figures.specs.Overwritten.{overwritten}
use Rattle.small_requests.proofs.values.put_at.Given as goal

-- to write what is left makes of the list what all make of the first one
abbrev pub invariant-loop-value : goal.invariant-loop-value
invariant-loop-value g l = record {
  left : overwritten (drop l.value-index l.values) l.list ≡ overwritten l.values l.fn.list;
  size : length l.list ≡ length l.fn.list;
}
