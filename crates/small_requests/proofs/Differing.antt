-- Operations whose rows differ from one plan to another.
use Rattle.std.proofs.Common.{◌≡◌, ◌≢◌, sym, ap, subst, ◌∙◌, true, Some}
use Rattle.std.specs.FinMap.{get}
use Rattle.std.proofs.lemmas.Option.{same_Some}
use Rattle.plan_basics.specs.declared.keys.OpKey.{OpKey}
use Rattle.plan_model.specs.Contents.{Contents, Operation}
use Rattle.plan_model.specs.Status.{IsSatisfied}
use Rattle.plan_model.specs.Valid.{IsValid}
use Rattle.status_rules.specs.Classes.{is_satisfied}
use Rattle.plan_records.specs.Rows.{IsOperationRow}
use Rattle.plan_records.specs.Work.{HasChangedRow}
use Rattle.plan_records.specs.declared.OperationRow.{OperationRow}
use Rattle.plan_checks.specs.plan_laws.proofs.Classes.{satisfied_decides}
use Rattle.plan_checks.specs.plan_laws.proofs.Decide.{invert}
use Rattle.plan_checks.specs.plan_laws.proofs.Tabling.{some_row}

module _ (P R : Contents) (valid : IsValid R) (o : OpKey) where
  module _ (before after : Operation) (was : get P.operations o ≡ Some before) (is : get R.operations o ≡ Some after) where
    -- a column differs
    differs_in : {X : Type 0} (column : OperationRow → X) (of : Operation → X) → ((S : Contents) (r : OperationRow) (row : IsOperationRow S r) → column r ≡ of row.op) → of after ≢ of before → HasChangedRow P R o
    differs_in column of shows apart =
        let r = some_row R valid o after is in (
          r.0,
          r.1,
          r.2,
          λ old.
              let now : after ≡ r.2.op = same_Some after r.2.op (sym is ∙ ap (get R.operations) (sym r.1) ∙ r.2.is_in_plan) in
              let then : before ≡ old.op = same_Some before old.op (sym was ∙ ap (get P.operations) (sym r.1) ∙ old.is_in_plan) in
              apart (ap of now ∙ sym (shows R r.0 r.2) ∙ shows P r.0 old ∙ sym (ap of then)),
        )

    pub other_mark : after.mark ≢ before.mark → HasChangedRow P R o
    other_mark = differs_in (λ r. r.mark) (λ op. op.mark) (λ S r row. row.columns.6)

    pub other_held : after.held ≢ before.held → HasChangedRow P R o
    other_held = differs_in (λ r. r.held) (λ op. op.held) (λ S r row. row.columns.7)

    pub other_nop : after.nop ≢ before.nop → HasChangedRow P R o
    other_nop = differs_in (λ r. r.nop) (λ op. op.nop) (λ S r row. row.columns.8)

  -- what comes to be satisfied has another status
  pub newly_satisfied : ¬ IsSatisfied P o → IsSatisfied R o → HasChangedRow P R o
  newly_satisfied never now =
      let here = invert R now in
      let r = some_row R valid o here.0 here.1 in
      let told : is_satisfied r.0.status ≡ true = (satisfied_decides R r.0.op r.0.status r.2.status).1 (subst (IsSatisfied R) (sym r.1) now) in
      (r.0, r.1, r.2, λ old. never (subst (IsSatisfied P) r.1 ((satisfied_decides P r.0.op r.0.status old.status).0 told)))
