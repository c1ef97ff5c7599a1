use Rattle.std.proofs.Common.{◌∙◌, sym, subst, ap, true≢false, All, Some}
use Rattle.plan_items.specs.Items.{IsItem}
use Rattle.plan_drafts.specs.Records.{AreItemsOf}
use Rattle.plan_denotation.proofs.Unique.{one_plan_of_items}
use Rattle.plan_opening.specs.Restoring.{reported}
use Rattle.plan_opening.proofs.Bare.{bare}
use Rattle.plan_opening.proofs.Restored.{restored}
use Rattle.plan_opening.proofs.RowItems.{items_in_range, items_of_bare}
use Rattle.plan_opening.proofs.RowNumbers.{say_each_once}
use Rattle.plan_opening.proofs.restoring.contents.contents_of_rows.Goals as goal

-- rows that say something twice are those of no plan
pub returns-in_default-clause-complete : goal.returns-in_default-clause-complete
returns-in_default-clause-complete c = λ P valid are. absurd ((rw c.in_default.is at c.in_ok-said.ensures) (say_each_once P valid c.args.rows.now are))

pub returns-then-not-are_in_range-clause-complete : goal.returns-then-not-are_in_range-clause-complete
returns-then-not-are_in_range-clause-complete c = λ P valid are.
    let items = c.deref.ensures.value ∙ c.in_ok-items.ensures in
    let said = rw c.in-Some.is at c.in_ok-said.ensures in
    absurd (true≢false (sym (c.if-not-are_in_range.ensures.1 (subst (All IsItem) (sym items) (items_in_range P valid c.args.rows.now are c.in-Some.said said)))))

pub returns-in_default-2-clause-complete : goal.returns-in_default-2-clause-complete
returns-in_default-2-clause-complete c = λ P valid are.
    let items = c.deref-2.ensures.value ∙ c.in_ok-items.ensures in
    let said = rw c.in-Some.is at c.in_ok-said.ensures in
    absurd ((rw c.in_default-2.is at c.in_ok-contents.ensures) (bare P.contents) (subst (λ items. AreItemsOf items (bare P.contents)) (sym items) (items_of_bare P valid c.args.rows.now are c.in-Some.said said)))

pub returns-clause-complete : goal.returns-clause-complete
returns-clause-complete c = λ P valid are.
    let items = c.deref-2.ensures.value ∙ c.in_ok-items.ensures in
    let said = rw c.in-Some.is at c.in_ok-said.ensures in
    let first = one_plan_of_items c.deref-2.result.now c.in-Some-2.contents (bare P.contents) (rw c.in-Some-2.is at c.in_ok-contents.ensures) (subst (λ items. AreItemsOf items (bare P.contents)) (sym items) (items_of_bare P valid c.args.rows.now are c.in-Some.said said)) in
    ap Some (c.put_reports.ensures.reported ∙ ap (reported c.args.rows.now) first ∙ restored P valid c.args.rows.now are)
