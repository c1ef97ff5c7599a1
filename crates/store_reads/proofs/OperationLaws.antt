-- What a row of `operation` has in each part.
use Rattle.std.proofs.Common.{◌≡◌, [], ◌∷◌, drop, length, refl, ap, ◌∙◌, arith}
use Rattle.sqlite.specs.Order.{Row, column}
use Rattle.sqlite.specs.declared.types.Value.TheVariants.{Text}
use Rattle.status_rules.specs.Texts.{mark_text, code_text}
use Rattle.plan_records.specs.declared.OperationRow.{OperationRow}
use Rattle.plan_records.specs.declared.PlanRow.TheVariants as row
use Rattle.store_schema.specs.StoredPlans.{operation_row}
use Rattle.store_schema.specs.Columns.{operation_columns}
use Rattle.store_reads.specs.Operations.{IsPlannedIn, IsReportedIn, IsDerivedIn, operation_of}
use Rattle.store_reads.specs.Rows.{IsOperationInRange, IsStoredAs}
use Rattle.store_reads.specs.declared.decoding.Table.TheVariants as table
use Rattle.store_reads.specs.declared.decoding.operations.Planned.{Planned}
use Rattle.store_reads.specs.declared.decoding.operations.Reported.{Reported}
use Rattle.store_reads.specs.declared.decoding.operations.Derived.{Derived}
use Rattle.store_reads.proofs.RecordLaws.{at, whole}

-- what was planned, reported and read off the plan, of an operation's row
abbrev pub planned_of : OperationRow → Planned
planned_of o = record { op = o.op; ws = o.ws; duration = o.duration; r1 = o.r1; r2 = o.r2; not_before = o.not_before; deadline = o.deadline }

abbrev pub reported_of : OperationRow → Reported
reported_of o = record { mark = o.mark; held = o.held; nop = o.nop }

abbrev pub derived_of : OperationRow → Derived
derived_of o = record { status = o.status; latest = o.latest; waiting = o.waiting }

module _ (s : Row) (o : OperationRow) (legal : IsOperationInRange o) (is : drop 1 s ≡ operation_row (operation_columns o)) where
  pub planned_in : IsPlannedIn s (planned_of o)
  planned_in = record {
    op = (legal.op, at s (operation_row (operation_columns o)) 0 is, at s (operation_row (operation_columns o)) 1 is, at s (operation_row (operation_columns o)) 2 is);
    ws = (legal.ws, at s (operation_row (operation_columns o)) 3 is);
    duration = (legal.duration, at s (operation_row (operation_columns o)) 4 is);
    r1 = (legal.r1, at s (operation_row (operation_columns o)) 5 is);
    r2 = (legal.r2, at s (operation_row (operation_columns o)) 6 is);
    not_before = (legal.not_before, at s (operation_row (operation_columns o)) 7 is);
    deadline = (legal.deadline, at s (operation_row (operation_columns o)) 8 is);
  }

  pub reported_in : IsReportedIn s (reported_of o)
  reported_in = record {
    mark = (mark_text o.mark, code_text o.mark, (legal.mark, refl, refl), at s (operation_row (operation_columns o)) 9 is, at s (operation_row (operation_columns o)) 10 is);
    held = at s (operation_row (operation_columns o)) 11 is;
    nop = at s (operation_row (operation_columns o)) 12 is;
  }

  pub derived_in : IsDerivedIn s (derived_of o)
  derived_in = record {
    status = at s (operation_row (operation_columns o)) 13 is;
    latest = at s (operation_row (operation_columns o)) 14 is;
    waiting = (legal.waiting, at s (operation_row (operation_columns o)) 15 is);
  }

-- a row of so many columns is what its three parts say
pub joined_is : (s : Row) (p : Planned) (r : Reported) (d : Derived) → length s ≡ 17 → IsPlannedIn s p → IsReportedIn s r → IsDerivedIn s d → IsStoredAs table.Operation s (row.Operation (operation_of p r d))
joined_is s p r d long planned reported derived =
    let mark = reported.mark in
    let text : column s 10 ≡ Text (mark_text r.mark) = mark.3 ∙ ap Text mark.2.1 in
    let code : column s 11 ≡ Text (code_text r.mark) = mark.4 ∙ ap Text mark.2.2 in
    let legal : IsOperationInRange (operation_of p r d) = record { op = planned.op.0; ws = planned.ws.0; duration = planned.duration.0; r1 = planned.r1.0; r2 = planned.r2.0; not_before = planned.not_before.0; deadline = planned.deadline.0; mark = mark.2.0; waiting = derived.waiting.0 } in
    (refl, legal, whole 16 s (omega (arith, long)) ∙ (λ i. planned.op.1 i ∷ planned.op.2 i ∷ planned.op.3 i ∷ planned.ws.1 i ∷ planned.duration.1 i ∷ planned.r1.1 i ∷ planned.r2.1 i ∷ planned.not_before.1 i ∷ planned.deadline.1 i ∷ text i ∷ code i ∷ reported.held i ∷ reported.nop i ∷ derived.status i ∷ derived.latest i ∷ derived.waiting.1 i ∷ []))
