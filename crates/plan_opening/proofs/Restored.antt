-- What the rows of a plan say was reported of its operations brings back what it holds.
use Rattle.std.proofs.Common.{◌≡◌, refl, sym, subst, ap, ◌∙◌, true, false, Bool, cond, List, [], ◌∷◌, inl, inr, Contains, Option, Some, None, option_map}
use Rattle.std.specs.FinMap.{get, same_map}
use Rattle.std.specs.Ordering.{eq_by_cmp}
use Rattle.std.proofs.lemmas.Option.{same_Some}
use Rattle.plan_basics.proofs.Members.{tied_is}
use Rattle.plan_basics.specs.declared.keys.OpKey.{OpKey}
use Rattle.plan_basics.specs.Keys.{operation_cmp, operation_cmp_total, operation_cmp-IsAntisymmetric}
use Rattle.plan_model.specs.Plan.{Plan}
use Rattle.plan_model.specs.Contents.{Contents, Operation, Operations}
use Rattle.plan_model.specs.Valid.{IsValid}
use Rattle.plan_drafts.proofs.Lists.{contains_cases, contains_head, contains_later, contains_none}
use Rattle.plan_drafts.proofs.Tables.{itself}
use Rattle.plan_records.specs.Changes.{is_at}
use Rattle.plan_records.specs.Rows.{AreRows, IsOperationRow, IsRow}
use Rattle.plan_records.specs.declared.PlanRow.{PlanRow}
use Rattle.plan_records.specs.declared.PlanRow.TheVariants as row
use Rattle.plan_records.specs.declared.OperationRow.{OperationRow}
use Rattle.plan_rows.specs.plan_laws.proofs.Revised.{get-revised}
use Rattle.plan_rows.specs.plan_laws.proofs.Revising.{now, now_at, now_elsewhere}
use Rattle.plan_rows.specs.plan_laws.proofs.Tabling.{some_row}
use Rattle.plan_opening.specs.Restoring.{reported, reported_by, with_report}
use Rattle.plan_opening.proofs.Bare.{bare, each, untouched}

-- ---- all but the operations stays
rest_by : (r : PlanRow) (Q : Contents) (m : Operations) → record (reported_by r Q) { operations = m } ≡ record Q { operations = m }
rest_by (row.Operation r) Q m = refl
rest_by _ Q m = refl

rest : (rows : List PlanRow) (Q : Contents) → reported rows Q ≡ record Q { operations = (reported rows Q).operations }
rest [] Q = refl
rest (r ∷ rows) Q = rest rows (reported_by r Q) ∙ rest_by r Q (reported rows (reported_by r Q)).operations

-- ---- an operation that isn't there doesn't come
absent_by : (r : PlanRow) (Q : Contents) (o : OpKey) → get Q.operations o ≡ None → get (reported_by r Q).operations o ≡ None
absent_by (row.Operation r) Q o e = get-revised (is_at r.op) (with_report r) Q o ∙ ap (option_map (λ op. cond (is_at r.op o) (with_report r op) op)) e
absent_by _ Q o e = e

absent : (rows : List PlanRow) (Q : Contents) (o : OpKey) → get Q.operations o ≡ None → get (reported rows Q).operations o ≡ None
absent [] Q o e = e
absent (r ∷ rows) Q o e = absent rows (reported_by r Q) o (absent_by r Q o e)

-- ---- what was planned of an operation stays
planned : (b : Bool) (r : OperationRow) (q : Operation) → untouched (cond b (with_report r q) q) ≡ untouched q
planned true r q = refl
planned false r q = refl

kept_by : (r : PlanRow) (Q : Contents) (o : OpKey) (q : Operation) → get Q.operations o ≡ Some q → (x : Operation) × (get (reported_by r Q).operations o ≡ Some x) × (untouched x ≡ untouched q)
kept_by (row.Operation r) Q o q e = (cond (is_at r.op o) (with_report r q) q, now (is_at r.op) (with_report r) Q o q e, planned (is_at r.op o) r q)
kept_by _ Q o q e = (q, e, refl)

-- ---- an operation of the plan
module _ (P : Contents) (o : OpKey) (op : Operation) (there : get P.operations o ≡ Some op) where
  -- its row brings it back
  brought : (r : OperationRow) → IsOperationRow P r → r.op ≡ o → (q : Operation) → untouched q ≡ untouched op → with_report r q ≡ op
  brought r x at q like =
      let same : x.op ≡ op = same_Some x.op op (sym x.is_in_plan ∙ ap (get P.operations) at ∙ there) in
      let mark : r.mark ≡ op.mark = x.columns.6 ∙ ap (λ (z : Operation). z.mark) same in
      let held : r.held ≡ op.held = x.columns.7 ∙ ap (λ (z : Operation). z.held) same in
      let nop : r.nop ≡ op.nop = x.columns.8 ∙ ap (λ (z : Operation). z.nop) same in
      ap (with_report r) like ∙ (λ i. record op { mark = mark i; held = held i; nop = nop i })

  brought_by : (r : OperationRow) → IsOperationRow P r → r.op ≡ o → (Q : Contents) (q : Operation) → get Q.operations o ≡ Some q → untouched q ≡ untouched op → get (reported_by (row.Operation r) Q).operations o ≡ Some op
  brought_by r x at Q q e like =
      let told : is_at r.op o ≡ true = ap (eq_by_cmp operation_cmp o) at ∙ itself operation_cmp_total operation_cmp-IsAntisymmetric o in
      now_at (is_at r.op) (with_report r) Q o q told e ∙ ap Some (brought r x at q like)

  -- once it is so, it stays so
  settled_at : (r : OperationRow) → IsOperationRow P r → (Q : Contents) → get Q.operations o ≡ Some op → (b : Bool) → is_at r.op o ≡ b → get (reported_by (row.Operation r) Q).operations o ≡ Some op
  settled_at r x Q e true told = brought_by r x (sym (tied_is operation_cmp-IsAntisymmetric o r.op told)) Q op e refl
  settled_at r x Q e false told = now_elsewhere (is_at r.op) (with_report r) Q o op told e

module _ (P : Plan) (o : OpKey) (op : Operation) (there : get P.contents.operations o ≡ Some op) where
  settled_by : (r : PlanRow) → IsRow P r → (Q : Contents) → get Q.operations o ≡ Some op → get (reported_by r Q).operations o ≡ Some op
  settled_by (row.Operation r) x Q e = settled_at P.contents o op there r x Q e (is_at r.op o) refl
  settled_by _ x Q e = e

  abbrev AreOfPlan : List PlanRow → Type 0
  AreOfPlan rows = (r : PlanRow) → Contains rows r → IsRow P r

  settled : (rows : List PlanRow) → AreOfPlan rows → (Q : Contents) → get Q.operations o ≡ Some op → get (reported rows Q).operations o ≡ Some op
  settled [] all Q e = e
  settled (r ∷ rows) all Q e = settled rows (λ x has. all x (contains_later r rows x has)) (reported_by r Q) (settled_by r (all r (contains_head r rows)) Q e)

  arrived :
      (rows : List PlanRow) → AreOfPlan rows → (r : OperationRow) → Contains rows (row.Operation r) → r.op ≡ o → (Q : Contents) (q : Operation) → get Q.operations o ≡ Some q → untouched q ≡ untouched op →
      get (reported rows Q).operations o ≡ Some op
  arrived [] all r has at Q q e like = absurd (contains_none (row.Operation r) has)
  arrived (x ∷ rows) all r has at Q q e like = elim (contains_cases x rows (row.Operation r) has) [
    | inl same ↦
        let h : IsRow P (row.Operation r) = all (row.Operation r) has in
        settled rows (λ y in_rows. all y (contains_later x rows y in_rows)) (reported_by x Q)
        (subst (λ z. get (reported_by z Q).operations o ≡ Some op) (sym same) (brought_by P.contents o op there r h at Q q e like))
    | inr later ↦
        let k = kept_by x Q o q e in
        arrived rows (λ y in_rows. all y (contains_later x rows y in_rows)) r later at (reported_by x Q) k.0 k.1 (k.2 ∙ like)
  ]

-- ---- all operations
module _ (P : Plan) (valid : IsValid P.contents) (rows : List PlanRow) (are : AreRows P rows) where
  at_key : (o : OpKey) (x : Option Operation) → get P.contents.operations o ≡ x → get (reported rows (bare P.contents)).operations o ≡ x
  at_key o None e = absent rows (bare P.contents) o (get-revised each untouched P.contents o ∙ ap (option_map untouched) e)
  at_key o (Some op) e =
      let r = some_row P.contents valid o op e in
      arrived P o op e rows (λ x has. (are.has_all x).0 has) r.0 ((are.has_all (row.Operation r.0)).1 r.2) r.1 (bare P.contents) (untouched op) (now each untouched P.contents o op e) refl

  pub restored : reported rows (bare P.contents) ≡ P.contents
  restored =
      rest rows (bare P.contents)
      ∙ ap (λ m. record P.contents { operations = m }) (same_map operation_cmp_total operation_cmp-IsAntisymmetric (reported rows (bare P.contents)).operations P.contents.operations (λ o. at_key o (get P.contents.operations o) refl))
