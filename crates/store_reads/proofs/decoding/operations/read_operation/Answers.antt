use Rattle.std.proofs.Common.{◌≡◌, length, arith}
use Rattle.store_reads.proofs.OperationLaws.{planned_of, reported_of, derived_of, planned_in, reported_in, derived_in, joined_is}
use Rattle.store_reads.proofs.RecordLaws.{no_operation}
use Rattle.store_reads.proofs.decoding.operations.read_operation.Goals as goal

pub returns-in_err-planned : goal.returns-in_err-planned
returns-in_err-planned c = rw c.from_residual.ensures (no_operation c.args.row.now (λ o legal is. c.in_err-planned.ensures (planned_of o) (planned_in c.args.row.now o legal is)))

pub returns-in_err-reported : goal.returns-in_err-reported
returns-in_err-reported c = rw c.from_residual-in_err-reported.ensures (no_operation c.args.row.now (λ o legal is. c.in_err-reported.ensures (reported_of o) (reported_in c.args.row.now o legal is)))

pub returns-in_err-derived : goal.returns-in_err-derived
returns-in_err-derived c = rw c.from_residual-in_err-derived.ensures (no_operation c.args.row.now (λ o legal is. c.in_err-derived.ensures (derived_of o) (derived_in c.args.row.now o legal is)))

pub returns : goal.returns
returns c =
    let long : c.column_count.result ≡ length c.args.row.now = c.column_count.ensures in
    rw c.joined.ensures (joined_is c.args.row.now c.in_ok-planned.planned c.in_ok-reported.reported c.in_ok-derived.derived (omega (arith, c.if-column_count-ne17.false, long)) c.in_ok-planned.ensures c.in_ok-reported.ensures c.in_ok-derived.ensures)
