use Rattle.std.proofs.Common.{◌≡◌, sym, subst, slice_get, Some}
use Rattle.std.specs.FinMap.{entries}
use Rattle.derived_figures.specs.plan_status.proofs.RowKeys.{key_of_row}
use Rattle.plan_rows.proofs.SourceRows.{operation_keys, operation_within}
use Rattle.plan_rows.proofs.operations.OperationRecordTabled.key_at.Goals as goal
use Rattle.plan_rows.specs.Sources.{source_of}

pub operation_key-requires : goal.operation_key-requires
operation_key-requires c = operation_within (source_of c.args.source) c.requires.source c.args.place c.requires.within

pub returns : goal.returns
returns c =
    let s = source_of c.args.source in
    let row = c.operation_key.ensures.key in
    subst (λ ks. slice_get ks c.args.place ≡ Some c.operation_key.result.now) (sym (operation_keys s c.requires.source))
    (key_of_row (entries s.contents.now.operations) c.args.place c.operation_key.result.now row.0 row.1)
