use Rattle.std.proofs.Common.{◌≡◌, ◌∙◌, refl, sym, ap, subst, ◌++◌, map, slice_get, Contains}
use Rattle.std.specs.List.Sorted.{IsStrictlySortedBy}
use Rattle.std.specs.declared.cmp.Ordering.{Ordering}
use Rattle.plan_records.specs.plan_drafts.proofs.Orders.{map_same}
use Rattle.plan_records.specs.plan_drafts.specs.RowKeys.{derived_exact, derived_is}
use Rattle.plan_records.specs.plan_drafts.specs.declared.RowKey.{RowKey}
use Rattle.plan_records.specs.Rows.{AreChanges, IsRow, key_of, row_cmp}
use Rattle.plan_rows.proofs.all_rows.changed_rows.Goals as goal
use Rattle.row_differences.proofs.RowsChanged.{row_changes}
use Rattle.row_differences.specs.Changes.{AreAt}

pub differences-requires-clause-exact : goal.differences-requires-clause-exact
differences-requires-clause-exact c = derived_exact

pub differences-requires-clause-before : goal.differences-requires-clause-before
differences-requires-clause-before c = subst (λ (R : RowKey → RowKey → Ordering). IsStrictlySortedBy R (map key_of c.args.before.now)) (sym derived_is) c.requires.before

pub differences-requires-clause-after : goal.differences-requires-clause-after
differences-requires-clause-after c = subst (λ (R : RowKey → RowKey → Ordering). IsStrictlySortedBy R (map key_of c.args.after.now)) (sym derived_is) c.requires.after

pub push_made-requires : goal.push_made-requires
push_made-requires c = λ i has. ((c.in_ok-found.ensures.has_changed i).0 (subst (λ xs. Contains xs i) c.deref.ensures.value has)).0

pub push_made-requires-2 : goal.push_made-requires-2
push_made-requires-2 c = λ i has. ((c.in_ok-found.ensures.has_gone i).0 (subst (λ xs. Contains xs i) c.deref-2.ensures.value has)).0

pub returns : goal.returns
returns c = λ P Q were are.
    let before = c.args.before.now in
    let after = c.args.after.now in
    let keys = map key_of before in
    let (more, at_changed, rows) = c.in_ok-push_made.ensures after (λ i r has e. e) in
    let (away, at_gone, gone) = c.in_ok-push_made-2.ensures keys (λ i k has e. e) in
    let rows_are : c.push_made.new.rows.items ≡ more = rows ∙ ap (λ rs. rs ++ more) c.new.ensures.items in
    let gone_are : c.push_made-2.new.rows.items ≡ away = gone ∙ ap (λ ks. ks ++ away) c.new-2.ensures.items in
    let told = row_changes row_cmp row_cmp key_of (λ (k : RowKey). k) (λ a b. refl) (λ a b same. same) keys (map key_of after) c.requires.before c.requires.after before after
    (sym (map_same keys)) (sym (map_same (map key_of after))) (IsRow P) (IsRow Q) were.has_all are.has_all (λ i j. slice_get before i ≡ slice_get after j) (λ i j one. (λ h. h, λ h. h))
    c.in_ok-found.found.changed.items c.in_ok-found.found.gone.items more away c.in_ok-found.ensures
    (subst (λ is. AreAt after is more) c.deref.ensures.value at_changed) (subst (λ ks. AreAt ks c.in_ok-found.found.gone.items away) (sym (map_same keys)) (subst (λ is. AreAt keys is away) c.deref-2.ensures.value at_gone)) in
    subst (λ rs. AreChanges P Q rs c.push_made-2.new.rows.items) (sym rows_are) (subst (AreChanges P Q more) (sym gone_are)
    (record { rows_ascend = told.rows_ascend; has_rows = told.has_rows; gone_ascend = told.gone_ascend; has_gone = told.has_gone }))
