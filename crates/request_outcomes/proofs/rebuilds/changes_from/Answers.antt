use Rattle.std.proofs.Common.{◌+◌, ◌*◌, ◌≤◌, sym, subst, arith, length, map, Some, Result, Ok, Err, IfOk, List}
use Rattle.std.specs.FinMap.{entries}
use Rattle.std.specs.List.Sorted.{IsStrictlySortedBy}
use Rattle.request_outcomes.proofs.rebuilds.changes_from.Goals as goal
use Rattle.request_outcomes.specs.Rebuilds.{IsChangeBase, IsPlanBefore, seen_before}
use Rattle.request_outcomes.specs.declared.rebuilds.ChangeBase.{ChangeBase}
use Rattle.plan_records.specs.Rows.{AreChanges, AreRows, key_of, row_cmp}
use Rattle.plan_records.specs.declared.PlanRow.{PlanRow}
use Rattle.plan_model.specs.Plan.{Plan, plan_held}
use Rattle.small_requests.specs.plan_changes.proofs.Answered.{if_ok}

-- what is so, is so where the answer is good
always : {T E A : Type 0} (r : Result T E) → A → IfOk r (λ _. A)
always (Ok x) a = a
always (Err e) a = tt

-- ---- by what is kept of the plan before

pub changes_between-requires-clause-before : goal.changes_between-requires-clause-before
changes_between-requires-clause-before c = (subst (λ (b : ChangeBase). IsChangeBase b c.args.records.now.contents) c.in-Kept.is c.requires.before).0

pub changes_between-requires-clause-kept : goal.changes_between-requires-clause-kept
changes_between-requires-clause-kept c = (subst (λ (b : ChangeBase). IsChangeBase b c.args.records.now.contents) c.in-Kept.is c.requires.before).1

pub returns-in-Kept-clause-changes : goal.returns-in-Kept-clause-changes
returns-in-Kept-clause-changes c =
    if_ok c.changes_between.result (λ x told P was.
    subst (λ (Q : Plan). AreChanges Q (plan_held c.args.at (Some c.args.records.now.contents)) x.rows.items x.gone.items) (sym (subst (λ (b : ChangeBase). IsPlanBefore b P) c.in-Kept.is was)) told) c.changes_between.ensures.changes

pub returns-in-Kept-clause-most : goal.returns-in-Kept-clause-most
returns-in-Kept-clause-most c =
    subst (λ (b : ChangeBase). IfOk c.changes_between.result (λ _. c.changes_between.new.records.looks + seen_before b ≤ c.args.records.now.looks + 2 * length (entries c.args.records.now.contents.operations))) (sym c.in-Kept.is)
    c.changes_between.ensures.most

-- ---- by all its rows

pub changed_rows-requires-clause-before : goal.changed_rows-requires-clause-before
changed_rows-requires-clause-before c = subst (λ (b : ChangeBase). IsChangeBase b c.args.records.now.contents) c.in-Listed.is c.requires.before

pub changed_rows-requires-clause-after : goal.changed_rows-requires-clause-after
changed_rows-requires-clause-after c = subst (λ (rows : List PlanRow). IsStrictlySortedBy row_cmp (map key_of rows)) (sym c.deref.ensures.value) c.in_ok-new-in-Listed.ensures.in_order

pub returns-in_ok-new-in-Listed-clause-changes : goal.returns-in_ok-new-in-Listed-clause-changes
returns-in_ok-new-in-Listed-clause-changes c =
    let Q = plan_held c.args.at (Some c.args.records.now.contents) in
    let are = subst (λ (rows : List PlanRow). AreRows Q rows) (sym c.deref.ensures.value) c.in_ok-new-in-Listed.ensures.rows in
    if_ok c.changed_rows.result (λ x told P was. told P Q (subst (λ (b : ChangeBase). IsPlanBefore b P) c.in-Listed.is was) are) c.changed_rows.ensures

pub returns-in_ok-new-in-Listed-clause-most : goal.returns-in_ok-new-in-Listed-clause-most
returns-in_ok-new-in-Listed-clause-most c =
    let few = c.in_ok-new-in-Listed.ensures.most in
    subst (λ (b : ChangeBase). IfOk c.changed_rows.result (λ _. c.rows_of.new.records.looks + seen_before b ≤ c.args.records.now.looks + 2 * length (entries c.args.records.now.contents.operations))) (sym c.in-Listed.is)
    (always c.changed_rows.result (omega (arith, few)))
