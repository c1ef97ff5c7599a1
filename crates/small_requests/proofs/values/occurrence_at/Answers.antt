use Rattle.std.specs.FinMap.{get}
use Rattle.plan_drafts.proofs.Tables.{some_is}
use Rattle.plan_checks.specs.plan_status.proofs.LoadedRows.{row_found}
use Rattle.small_requests.proofs.values.occurrence_at.Goals as goal

pub occurrence_place_of-requires : goal.occurrence_place_of-requires
occurrence_place_of-requires c =
    let P = c.args.uncounted.now.contents.now in
    let o = c.operation_key.result.now in
    let row = c.operation_key.ensures.key in
    some_is (get P.operations o) row.0 (row_found P c.args.place o row.0 row.1)

pub returns-clause-belongs : goal.returns-clause-belongs
returns-clause-belongs c =
    let row = c.operation_key.ensures.key in
    let its = c.occurrence_place_of.ensures.at in
    record { o = c.operation_key.result.now; op = row.0; terms = its.0; operation = row.1; occurrence = its.1 }
