use Rattle.std.proofs.Common.{◌≡◌, ◌∙◌, arith, length, sym, subst}
use Rattle.plan_model.specs.Contents.{AddedParts}
use Rattle.plan_drafts.specs.Records.{DenotesAddition}
use Rattle.plan_denotation.proofs.DenotingExtensions.{addition_denoted, no_extension_denoted, not_one_denoted, occurrences_added}
use Rattle.plan_denotation.proofs.MadeExtensions as made_of
use Rattle.plan_denotation.proofs.Unique.{as_extension}
use Rattle.plan_denotation.proofs.drafts.addition_of_items.Goals as goal

pub returns-in_default-clause-denoted : goal.returns-in_default-clause-denoted
returns-in_default-clause-denoted c = λ records said s d. no_extension_denoted records c.args.items.now said (rw c.in_default.is at c.in_ok-parts.ensures) s (as_extension records s d)

pub returns-then-len-ne1-clause-denoted : goal.returns-then-len-ne1-clause-denoted
returns-then-len-ne1-clause-denoted c = λ records said.
    let several : ¬ (length c.in-Some.parts.occurrences.items ≡ 1) = λ one. absurd (omega (arith, one)) in
    not_one_denoted records c.args.items.now said c.in-Some.parts (rw c.in-Some.is at c.in_ok-parts.ensures) several

pub of_parts-requires-clause-one : goal.of_parts-requires-clause-one
of_parts-requires-clause-one c =
    let made = rw c.in-Some.is at c.in_ok-parts.ensures in
    let one : length c.in-Some.parts.occurrences.items ≡ 1 = omega arith in
    occurrences_added c.in-Some.parts made.occurrences_in_order ∙ one

pub of_parts-requires-clause-in_order : goal.of_parts-requires-clause-in_order
of_parts-requires-clause-in_order c = made_of.are_extension_parts c.args.items.now c.in-Some.parts c.requires (rw c.in-Some.is at c.in_ok-parts.ensures)

pub returns-clause-denoted : goal.returns-clause-denoted
returns-clause-denoted c =
    let one : length c.in-Some.parts.occurrences.items ≡ 1 = omega arith in
    λ records said.
    subst (λ (s : AddedParts). DenotesAddition records s) (sym c.of_parts.ensures)
    (addition_denoted records c.args.items.now said c.in-Some.parts (rw c.in-Some.is at c.in_ok-parts.ensures) one)
