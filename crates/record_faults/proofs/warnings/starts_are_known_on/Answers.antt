use Rattle.std.proofs.Common.{◌↔◌, IsTrue, sym, subst}
use Rattle.record_faults.specs.Warnings.{StartsAreKnownOn}
use Rattle.record_faults.proofs.Warned.{says_of, false_is, starts_not_known, starts_known_is}
use Rattle.record_faults.proofs.warnings.starts_are_known_on.Goals as goal

pub returns-in_default : goal.returns-in_default
returns-in_default c = false_is (starts_not_known c.args.openings.now.said.items c.args.workstation.now c.args.openings.now.index c.requires.index (sym c.in_default.ensures))

pub returns : goal.returns
returns c =
    let said = c.args.openings.now.said.items in
    let w = c.args.workstation.now in
    let says = says_of said c.in-Some.first c.item_at.result (rw c.deref.ensures.value at c.item_at.ensures) in
    let is = starts_known_is said w c.args.openings.now.index c.requires.index c.in-Some.first (sym c.in-Some.ensures) c.item_at.result says c.workstation_of.result c.workstation_of.ensures in
    subst (λ b. IsTrue b ↔ StartsAreKnownOn said w) (sym c.is_some.ensures) is
