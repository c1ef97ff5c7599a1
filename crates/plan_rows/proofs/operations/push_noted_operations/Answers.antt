use Rattle.std.proofs.Common.{Some, refl}
use Rattle.std.specs.FinMap.{entries}
use Rattle.std.specs.Map.{keys_of}
use Rattle.std.proofs.lemmas.Result.{on_ok_weaker}
use Rattle.plan_basics.specs.Keys.{operation_cmp, operation_cmp-IsAntisymmetric, operation_cmp_total}
use Rattle.plan_records.specs.plan_drafts.specs.declared.RowKey.TheVariants as key
use Rattle.plan_rows.proofs.NotedTables.{noted_table}
use Rattle.plan_rows.proofs.SourceRows.{are_operations, operation_keys, operations_ascend}
use Rattle.plan_rows.proofs.TouchedRows.{operation_keys_stay, operations_elsewhere, operations_within, within_keys}
use Rattle.plan_rows.proofs.operations.push_noted_operations.Goals as goal
use Rattle.plan_rows.specs.Notes.{is_operation}
use Rattle.plan_rows.specs.Rows.{keyed_operations, rows_of}
use Rattle.plan_rows.specs.Sources.{plan_if_any, source_with}

pub push_noted-requires-clause-within : goal.push_noted-requires-clause-within
push_noted-requires-clause-within c = λ note has.
    let s = source_with c.args.records.now.contents c.args.columns in
    within_keys (entries s.contents.now.operations) (keys_of (keyed_operations s)) (operation_keys s c.requires.source) note.place (c.requires.within note has)

pub returns-clause-told : goal.returns-clause-told
returns-clause-told c = λ after touched source among noted clock now so_far.
    let s = source_with c.args.records.now.contents c.args.columns in
    let before = Some s in
    let was = c.requires.source in
    let P = plan_if_any clock before in
    let Q = plan_if_any now (Some after) in
    let olds = keyed_operations s in
    let news = keyed_operations after in
    on_ok_weaker c.push_noted.result
    (λ told. noted_table operation_cmp key.Operation (λ a b. refl) operation_cmp-IsAntisymmetric operation_cmp_total 5 P Q (keys_of olds) (keys_of news)
    (operation_keys_stay before (Some after) was source touched among)
    (operations_ascend before was)
    (rows_of olds) (rows_of news)
    (are_operations clock before was)
    (are_operations now (Some after) source) touched
    (operations_within before (Some after) was source touched among)
    (operations_elsewhere before (Some after) was source touched among)
    c.args.changes.now (record { rows = c.push_noted.new.rows; gone = c.args.changes.now.gone }) refl told so_far)
    (c.push_noted.ensures.told (rows_of news) touched among.ascend noted)

pub returns-clause-operations : goal.returns-clause-operations
returns-clause-operations c = c.push_noted.ensures.count is_operation
