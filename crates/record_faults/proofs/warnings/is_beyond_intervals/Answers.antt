use Rattle.std.proofs.Common.{None, Some, refl}
use Rattle.record_faults.specs.Warnings.{IsBeyond}
use Rattle.record_faults.proofs.Warned.{says_of, false_is, no_operation, of_operation}
use Rattle.record_faults.proofs.warnings.is_beyond_intervals.Goals as goal

pub returns-in_default : goal.returns-in_default
returns-in_default c =
    let said = c.args.openings.now.said.items in
    let says = says_of said c.args.place c.item_at.result (rw c.deref.ensures.value at c.item_at.ensures) in
    false_is (no_operation said c.args.place c.item_at.result says (IsBeyond said) None refl c.in_default.ensures)

pub returns : goal.returns
returns c =
    let said = c.args.openings.now.said.items in
    let says = says_of said c.args.place c.item_at.result (rw c.deref.ensures.value at c.item_at.ensures) in
    of_operation said c.args.place c.item_at.result says (IsBeyond said) (Some c.in-Some.operation) c.in-Some.operation refl c.in-Some.ensures c.is_beyond.result c.is_beyond.ensures
