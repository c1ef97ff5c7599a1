use Rattle.plan_rows.proofs.SourceRows.{operation_within}
use Rattle.plan_rows.proofs.operations.OperationRecordNoted.seen.Goals as goal
use Rattle.plan_rows.specs.Sources.{source_with}

pub see-seen-requires : goal.see-seen-requires
see-seen-requires c = operation_within (source_with c.args.records.now.contents c.args.columns) c.requires.source c.args.place c.requires.within
