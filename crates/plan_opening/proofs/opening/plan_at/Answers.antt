use Rattle.std.proofs.Common.{sym, ◌∙◌, true≢false}
use Rattle.plan_opening.proofs.Opened.{none_first, none_loaded, the_first}
use Rattle.plan_opening.proofs.opening.plan_at.Goals as goal

pub returns-in_default-clause-opened : goal.returns-in_default-clause-opened
returns-in_default-clause-opened c = none_loaded c.args.rows.now _ _ c.requires.told c.if-is_loaded.true (rw c.in_default.is at c.in_ok-loaded.ensures.found)

pub returns-then-not-are_first-clause-opened : goal.returns-then-not-are_first-clause-opened
returns-then-not-are_first-clause-opened c =
    none_first c.args.rows.now _ _ c.requires.told c.if-is_loaded.false (λ are. true≢false (sym (c.are_first.ensures.1 are) ∙ c.if-not-are_first.true))

pub returns-clause-opened : goal.returns-clause-opened
returns-clause-opened c = the_first c.args.rows.now _ _ c.requires.told (c.are_first.ensures.0 c.if-not-are_first.false)
