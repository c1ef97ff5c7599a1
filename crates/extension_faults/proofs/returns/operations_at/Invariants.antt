use Rattle.std.proofs.Common.{take}
use Rattle.std.specs.List.{AllZip}
use Rattle.plan_drafts.specs.declared.RowKey.TheVariants as key
use Rattle.record_faults.specs.Sayings.{IsGiven}
use Rattle.extension_faults.proofs.returns.operations_at.Given as goal

-- those of the places so far
abbrev pub invariant-loop-number : goal.invariant-loop-number
invariant-loop-number l = AllZip (λ place o. IsGiven l.ends (key.Operation o) place) (take l.number l.places) l.operations.items
