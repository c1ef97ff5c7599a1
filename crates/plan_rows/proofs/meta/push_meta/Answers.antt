use Rattle.std.proofs.Common.{◌∙◌, sym, subst, [], ◌∷◌}
use Rattle.std.proofs.lemmas.Bool.{true≢false}
use Rattle.std.proofs.lemmas.List.{append-nil}
use Rattle.std.proofs.lemmas.Result.{on_ok_weaker}
use Rattle.plan_records.specs.Rows.{key_of, row_cmp}
use Rattle.plan_records.specs.declared.PlanRow.TheVariants as row
use Rattle.plan_rows.proofs.MetaRow.{meta_changed, meta_stays}
use Rattle.plan_rows.proofs.OneMore.{one_more_table}
use Rattle.plan_rows.proofs.meta.push_meta.Goals as goal
use Rattle.plan_rows.specs.Tables.{IsRowOf}
use Rattle.row_differences.specs.Changes.{AreRowChanges}

pub returns-then-stays : goal.returns-then-stays
returns-then-stays c = λ P Q p_loaded p_clock q_loaded q_clock so_far.
    let same = c.stays.ensures.0 c.if-stays.true in
    one_more_table 0 P Q c.args.changes.now c.args.changes.now [] [] (sym (append-nil c.args.changes.now.rows.items)) (sym (append-nil c.args.changes.now.gone.items)) so_far
    (meta_stays P Q (p_loaded ∙ same.0 ∙ sym q_loaded) (p_clock ∙ same.1 ∙ sym q_clock))

pub returns : goal.returns
returns c = λ P Q p_loaded p_clock q_loaded q_clock so_far.
    let is = row.Meta 2 c.args.loaded c.args.clock in
    let changed = meta_changed P Q (λ loaded clock. true≢false (sym (c.stays.ensures.1 (sym p_loaded ∙ loaded ∙ q_loaded, sym p_clock ∙ clock ∙ q_clock)) ∙ c.if-stays.false)) in
    let here = subst (λ r. AreRowChanges row_cmp key_of (IsRowOf 0 P) (IsRowOf 0 Q) (r ∷ []) []) (λ i. row.Meta 2 (q_loaded i) (q_clock i)) changed in
    on_ok_weaker c.push_meta_row.result
    (λ rows. one_more_table 0 P Q c.args.changes.now (record { rows = c.push_meta_row.new.rows; gone = c.args.changes.now.gone }) (is ∷ []) [] rows (sym (append-nil c.args.changes.now.gone.items)) so_far here)
    c.push_meta_row.ensures
