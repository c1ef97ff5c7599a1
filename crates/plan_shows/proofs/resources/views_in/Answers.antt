use Rattle.std.proofs.Common.{◌∙◌, subst}
use Rattle.plan_model.specs.Contents.{Contents}
use Rattle.plan_reasons.specs.plan_core.specs.start_choice.specs.Choices.{AreHeldIn}
use Rattle.plan_shows.proofs.resources.views_in.Goals as goal

pub views_with-requires : goal.views_with-requires
views_with-requires c = subst (λ (Q : Contents). AreHeldIn Q c.in_ok-holdings.holdings.held) (c.valid.ensures.contents ∙ c.contents.ensures.contents) c.in_ok-holdings.ensures.held
