use Rattle.std.proofs.Common.{◌≡◌, take}
use Rattle.std.specs.List.{filter}
use Rattle.std.specs.Map.{keys_of}
use Rattle.plan_changes.proofs.InOccurrence.{is_in}
use Rattle.plan_changes.proofs.commands.operations_of.Given as goal

-- of the rows before the index, those of the occurrence
abbrev pub invariant-loop-row : goal.invariant-loop-row
invariant-loop-row l = l.keys.items ≡ filter (is_in l.occurrence) (keys_of (take l.row-index l.row-items))
