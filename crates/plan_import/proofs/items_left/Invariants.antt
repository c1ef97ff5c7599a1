use Rattle.std.proofs.Common.{◌≡◌, All, length}
use Rattle.csv.specs.Reading.{source_of}
use Rattle.plan_items.specs.Items.{IsItem}
use Rattle.plan_import.specs.Records.{IsPlain}
use Rattle.plan_import.proofs.Saying.{SaidSoFar}
use Rattle.plan_import.proofs.items_left.Given as goal

abbrev pub invariant-loop : goal.invariant-loop
invariant-loop g l = IsPlain l.text × (length l.fields.items ≡ 10) × All IsItem l.items.items
    × SaidSoFar (source_of g.R.Read.remaining l.initial.text) (source_of g.R.Read.remaining l.text) l.text.state l.items.items
