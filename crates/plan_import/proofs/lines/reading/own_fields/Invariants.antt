use Rattle.std.proofs.Common.{◌≡◌, take}
use Rattle.csv.specs.Records.{fields_of as row_fields}
use Rattle.plan_items.specs.Items.{fields_of}
use Rattle.plan_import.proofs.lines.reading.own_fields.Given as goal

abbrev pub invariant-loop-field : goal.invariant-loop-field
invariant-loop-field l = (l.field-iterator.row.now ≡ l.row) × (fields_of l.fields.items ≡ take l.field-iterator.at (row_fields l.row))
