use Rattle.std.proofs.Common.{sym, subst}
use Rattle.plan_model.specs.Contents.{AddedParts}
use Rattle.plan_drafts.specs.Records.{DenotesExtension}
use Rattle.plan_denotation.proofs.DenotingExtensions.{extension_denoted, no_extension_denoted}
use Rattle.plan_denotation.proofs.MadeExtensions as made_of
use Rattle.plan_denotation.proofs.drafts.extension_of_items.Goals as goal

pub returns-in_default-clause-denoted : goal.returns-in_default-clause-denoted
returns-in_default-clause-denoted c = λ records said. no_extension_denoted records c.args.items.now said (rw c.in_default.is at c.in_ok-parts.ensures)

pub of_parts-requires : goal.of_parts-requires
of_parts-requires c = record { in_order = made_of.are_extension_parts c.args.items.now c.in-Some.parts c.requires (rw c.in-Some.is at c.in_ok-parts.ensures) }

pub returns-clause-denoted : goal.returns-clause-denoted
returns-clause-denoted c = λ records said.
    subst (λ (s : AddedParts). DenotesExtension records s) (sym c.of_parts.ensures)
    (extension_denoted records c.args.items.now said c.in-Some.parts (rw c.in-Some.is at c.in_ok-parts.ensures))
