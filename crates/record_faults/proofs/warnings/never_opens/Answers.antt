use Rattle.std.proofs.Common.{None, Some, refl}
use Rattle.record_faults.proofs.Warned.{says_of, false_is, no_workstation, unopened_is}
use Rattle.record_faults.proofs.warnings.never_opens.Goals as goal

pub returns-in_default : goal.returns-in_default
returns-in_default c =
    let said = c.args.openings.now.said.items in
    let says = says_of said c.args.place c.item_at.result (rw c.deref.ensures.value at c.item_at.ensures) in
    false_is (no_workstation said c.args.place c.item_at.result says None refl c.in_default.ensures)

pub returns : goal.returns
returns c =
    let said = c.args.openings.now.said.items in
    let says = says_of said c.args.place c.item_at.result (rw c.deref.ensures.value at c.item_at.ensures) in
    unopened_is said c.args.place c.item_at.result says (Some c.in-Some.name) c.in-Some.name refl c.in-Some.ensures c.opens.result c.opens.ensures
