use Rattle.std.proofs.Common.{◌∙◌, sym, subst, refl, [], Some}
use Rattle.plan_records.specs.Rows.{key_of, row_cmp}
use Rattle.plan_rows.proofs.AllTables.{in_no_table}
use Rattle.plan_rows.proofs.MetaRow.{clock_of_plan, loaded_if_any}
use Rattle.plan_rows.proofs.meta.meta_changes.Goals as goal
use Rattle.plan_rows.specs.Sources.{plan_if_any, source_if_any}
use Rattle.plan_rows.specs.Tables.{IsRowBelow}
use Rattle.row_differences.specs.Changes.{AreRowChanges}

pub returns : goal.returns
returns c after =
    let was = c.args.before.now.clock in
    let before = source_if_any c.args.before.now.loaded in
    let P = plan_if_any was before in
    let Q = plan_if_any c.args.clock (Some after) in
    let start =
    subst (λ rows. AreRowChanges row_cmp key_of (IsRowBelow 0 P) (IsRowBelow 0 Q) rows c.new-2.result.items) (sym c.new.ensures.items)
    (subst (AreRowChanges row_cmp key_of (IsRowBelow 0 P) (IsRowBelow 0 Q) []) (sym c.new-2.ensures.items) (in_no_table P Q))
    in
    c.in_ok-push_meta.ensures P Q (loaded_if_any was before ∙ sym c.is_loaded.ensures) (clock_of_plan was before) refl refl start
