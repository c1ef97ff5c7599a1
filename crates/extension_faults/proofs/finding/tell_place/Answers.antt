use Rattle.std.proofs.Common.{arith, refl, None, Some}
use Rattle.record_faults.proofs.Gathering.{by_property}
use Rattle.record_faults.proofs.Warned.{says_of}
use Rattle.extension_faults.proofs.InOrder.{before_later}
use Rattle.extension_faults.proofs.Told.{none_more, nothing_told, said_told}
use Rattle.extension_faults.proofs.finding.tell_place.Goals as goal

pub returns-in_default-clause-told : goal.returns-in_default-clause-told
returns-in_default-clause-told c = λ f.
    let said = c.args.said.now in
    let says = says_of said c.args.place None c.in_default.ensures in
    none_more (nothing_told c.args.plan.now.plan.contents said c.args.place None says refl f.wrong)

pub returns-in_default-clause-in_order : goal.returns-in_default-clause-in_order
returns-in_default-clause-in_order c = λ before. before_later _ _ _ before (omega arith)

pub returns-clause-told : goal.returns-clause-told
returns-clause-told c = λ f.
    let said = c.args.said.now in
    let x = c.in-Some.item in
    let says = says_of said c.args.place (Some x) c.in-Some.ensures in
    by_property (c.in_ok-tell_item.ensures.told said c.requires f) (said_told c.args.plan.now.plan.contents said c.args.place (Some x) says x refl f.wrong)
