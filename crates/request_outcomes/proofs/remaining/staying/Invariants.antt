use Rattle.std.proofs.Common.{◌≡◌, Bool, take}
use Rattle.std.specs.List.{filter}
use Rattle.plan_basics.specs.declared.keys.OccKey.{OccKey}
use Rattle.request_outcomes.proofs.Staying.{IsStaying}
use Rattle.request_outcomes.proofs.remaining.staying.Given as goal

-- of the rows before the index, those that stay
abbrev pub invariant-loop-row : goal.invariant-loop-row
invariant-loop-row l = (stays : OccKey → Bool) → IsStaying l.outline stays → l.staying.items ≡ filter (λ row. stays row.0) (take l.row-index l.row-items)
