use Rattle.std.proofs.Common.{subst}
use Rattle.start_choice.specs.Choices.{AreHeldIn}
use Rattle.plan_model.specs.Contents.{Contents}
use Rattle.derived_figures.proofs.outlines.Outline.holdings.Goals as goal

pub returns : goal.returns
returns c = subst (λ (P : Contents). AreHeldIn P c.self.inside.derived.figures.now.holdings.held) c.self.view_is c.self.invariant.figures.holders
