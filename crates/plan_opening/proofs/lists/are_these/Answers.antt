use Rattle.std.proofs.Common.{◌≢◌, rules, sym, subst, ◌∙◌, true≢false}
use Rattle.std.specs.Prelude.{AllPairs}
use Rattle.plan_drafts.specs.KeyOrder.{AreInKeyOrder}
use Rattle.plan_drafts.specs.RowKeys.{derived_is}
use Rattle.plan_drafts.specs.contracts.RowKeyOrd.TheImpl as derived
use Rattle.plan_records.specs.Rows.{key_of, row_cmp}
use Rattle.plan_opening.proofs.Ordered.{keys_apart, order_of_these, these_from_order}
use Rattle.plan_opening.proofs.lists.are_these.Goals as goal
use Rattle.plan_opening.proofs.lists.are_these.Goals.{In-Some}

-- the rows in key order
ordered : (c : In-Some) → AreInKeyOrder row_cmp key_of c.args.rows.now c.in-Some.ordered.items
ordered c =
    let as_derived : AreInKeyOrder derived.ghosts.cmp key_of c.in_ok-rows.rows.items c.in-Some.ordered.items = rw c.in-Some.is at c.in_ok-ordered.ensures key_of (λ x r h. search rules) in
    subst (λ cmp. AreInKeyOrder cmp key_of c.args.rows.now c.in-Some.ordered.items) derived_is
    (subst (λ rows. AreInKeyOrder derived.ghosts.cmp key_of rows c.in-Some.ordered.items) c.in_ok-rows.ensures.items as_derived)

pub returns-in_default : goal.returns-in_default
returns-in_default c = (
  λ never. absurd (true≢false (sym never)),
  λ these. absurd ((rw c.in_default.is at c.in_ok-ordered.ensures key_of (λ x r h. search rules))
      (subst (AllPairs (λ a b. key_of a ≢ key_of b)) (sym c.in_ok-rows.ensures.items) (keys_apart c.args.rows.now c.args.all.now c.requires these))),
)

pub returns : goal.returns
returns c =
    let are = ordered (goal.at.returns c).In-Some in (
      λ told. these_from_order c.args.rows.now c.args.all.now c.requires c.in-Some.ordered.items are (sym c.deref.ensures.value ∙ c.are_same.ensures.0 told),
      λ these. c.are_same.ensures.1 (c.deref.ensures.value ∙ order_of_these c.args.rows.now c.args.all.now c.requires c.in-Some.ordered.items are these),
    )
