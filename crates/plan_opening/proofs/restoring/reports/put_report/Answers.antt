use Rattle.std.proofs.Common.{refl, sym, ap, ◌∙◌, subst}
use Rattle.std.specs.FinMap.{insert}
use Rattle.plan_basics.specs.Keys.{operation_cmp, operation_cmp_total, operation_cmp-IsAntisymmetric}
use Rattle.plan_model.specs.Contents.{Operation}
use Rattle.plan_model.specs.Valid.{IsValid}
use Rattle.plan_drafts.proofs.OneRow.{unrevised}
use Rattle.plan_rows.specs.plan_changes.proofs.Put.{put_made}
use Rattle.plan_opening.specs.Restoring.{with_report}
use Rattle.plan_opening.proofs.Reporting.{report_valid}
use Rattle.plan_opening.proofs.restoring.reports.put_report.Goals as goal

pub returns-in-Some-clause-reported : goal.returns-in-Some-clause-reported
returns-in-Some-clause-reported c =
    let old = c.args.contents.now in
    let r = c.args.row.now in
    c.set_operation.ensures
    ∙ ap (λ (op : Operation). record old { operations = insert old.operations r.op op }) c.with_report-operation.ensures
    ∙ ap (λ m. record old { operations = m }) (put_made operation_cmp_total operation_cmp-IsAntisymmetric r.op (with_report r) old.operations c.in-Some.operation.now c.in-Some.ensures.found)

pub returns-in-Some-clause-valid : goal.returns-in-Some-clause-valid
returns-in-Some-clause-valid c = subst IsValid (sym (returns-in-Some-clause-reported c)) (report_valid c.args.row.now c.args.contents.now c.read_for_proof.ensures c.requires)

pub returns-in_default-clause-reported : goal.returns-in_default-clause-reported
returns-in_default-clause-reported c =
    let old = c.args.contents.now in
    let r = c.args.row.now in
    ap (λ m. record old { operations = m }) (unrevised operation_cmp operation_cmp_total operation_cmp-IsAntisymmetric r.op (with_report r) old.operations (c.in_default.ensures.absent refl))
