use Rattle.std.proofs.Common.{◌≡◌, length, take}
use Rattle.csv.specs.Records.{fields_of as row_fields}
use Rattle.plan_items.specs.Items.{fields_of}
use Rattle.plan_import.proofs.refill.Given as goal

abbrev pub invariant-loop-i : goal.invariant-loop-i
invariant-loop-i l = (length l.fields.items ≡ length (row_fields l.row)) × (take l.i (fields_of l.fields.items) ≡ take l.i (row_fields l.row))
