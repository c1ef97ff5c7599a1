use Rattle.std.proofs.Common.{rules, ◌≡◌, Some, slice_index_or, false, sym, ap, ◌∙◌, arith, w64, FitsSigned, to_z, of_z}
use Rattle.std.proofs.lemmas.Int.{ints}
use Rattle.std.proofs.lemmas.Option.{slice_get-get_or, slice_get_within}
use Rattle.std.specs.FinMap.{entries}
use Rattle.derived_figures.specs.plan_status.specs.declared.standings.Standing.{Standing}
use Rattle.status_rules.specs.declared.Status.TheVariants.{Started}
use Rattle.plan_rows.proofs.KeyedRows.{keyed_row}
use Rattle.plan_rows.proofs.SourceRows.{operation_at}
use Rattle.plan_rows.proofs.operations.row_of.Goals as goal
use Rattle.plan_rows.specs.Rows.{keyed_operations}
use Rattle.plan_rows.specs.Sources.{source_with}

pub returns : goal.returns
returns c = λ P source at.
    let s = source_with P c.args.columns in
    let i = c.args.place in
    let within = slice_get_within (entries P.operations) i (c.args.op, c.args.operation.now) at in
    let none : Standing = record { preds = record { live = false; satisfied = false; nonreporting = false }; waiting = 0 } in
    let standing = slice_get-get_or s.standings.now i none (omega (arith, within, source.standings.size)) in
    let status = slice_get-get_or s.statuses.now i Started (omega (arith, within, source.statuses.size)) in
    let fits : FitsSigned w64 c.of.result = search rules in
    let back : to_z w64 (of_z w64 c.of.result) ≡ c.of.result = omega (arith, ints, fits) in
    keyed_row (keyed_operations s) i c.args.op _
    (operation_at s source i c.args.op _ (slice_index_or s.standings.now i none) (slice_index_or s.statuses.now i Started) (to_z w64 (of_z w64 c.of.result))
    (at ∙ ap (λ z. Some (c.args.op, z)) (sym c.operation.view_is))
    standing
    status
    (c.of.ensures ∙ ap Some (sym back)))
