use Rattle.std.specs.FinMap.{entries}
use Rattle.std.specs.Map.{keys_of}
use Rattle.plan_rows.proofs.SourceRows.{operation_keys}
use Rattle.plan_rows.proofs.TouchedRows.{within_keys}
use Rattle.plan_rows.proofs.operations.note_operations.Goals as goal
use Rattle.plan_rows.specs.Rows.{keyed_operations}
use Rattle.plan_rows.specs.Sources.{source_with}

pub note_rows-requires-clause-within : goal.note_rows-requires-clause-within
note_rows-requires-clause-within c = λ i has.
    let s = source_with c.args.records.now.contents c.args.columns in
    let lt = c.requires.within i has in
    within_keys (entries s.contents.now.operations) (keys_of (keyed_operations s)) (operation_keys s c.requires.source) i lt
