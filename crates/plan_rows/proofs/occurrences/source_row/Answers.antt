use Rattle.std.proofs.Common.{refl}
use Rattle.plan_rows.proofs.occurrences.source_row.Goals as goal
use Rattle.plan_rows.specs.Sources.{source_of}

pub returns : goal.returns
returns c = c.row_of.ensures (source_of c.args.source) c.requires.source c.occurrences.ensures.rows refl
