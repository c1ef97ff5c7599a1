use Rattle.std.proofs.Common.{get_or}
use Rattle.std.specs.FinMap.{entries}
use Rattle.plan_basics.specs.declared.keys.OpKey.{OpKey}
use Rattle.plan_status.proofs.RowKeys.{row_read}
use Rattle.plan_status.specs.plan_model.specs.Contents.{Operation}
use Rattle.counted_records.proofs.uncounted.UncountedContents.operation_key.Goals as goal

pub returns-clause-key : goal.returns-clause-key
returns-clause-key c =
    let rows = c.operations.result.now in
    let row : OpKey × Operation = get_or rows c.args.place c.index-operations-place.result in
    (row.1, row_read rows (entries c.args.self.now.contents.now.operations) c.operations.ensures.rows c.args.place c.index-operations-place.result c.requires)
