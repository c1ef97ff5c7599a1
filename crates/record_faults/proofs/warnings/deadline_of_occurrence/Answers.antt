use Rattle.std.proofs.Common.{sym}
use Rattle.record_faults.proofs.Warned.{says_of, none_is, no_deadline, deadline_is}
use Rattle.record_faults.proofs.warnings.deadline_of_occurrence.Goals as goal

pub returns-in_err-first : goal.returns-in_err-first
returns-in_err-first c =
    let o = c.args.operation.now in
    let said = c.args.openings.now.said.items in
    rw c.from_residual.ensures (λ d. none_is d (no_deadline said o c.args.openings.now.index c.requires.index (sym c.in_err-first.ensures) d))

pub returns : goal.returns
returns c =
    let o = c.args.operation.now in
    let said = c.args.openings.now.said.items in
    let says = says_of said c.in_ok-first.first c.item_at.result (rw c.deref.ensures.value at c.item_at.ensures) in
    deadline_is said o c.args.openings.now.index c.requires.index c.in_ok-first.first (sym c.in_ok-first.ensures) c.item_at.result says c.deadline_said.result c.deadline_said.ensures
