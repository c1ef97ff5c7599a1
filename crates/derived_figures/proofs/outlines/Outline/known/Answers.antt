use Rattle.std.proofs.Common.{sym, subst, ◌∙◌}
use Rattle.start_choice.specs.plan_drafts.specs.Places.{AreStatuses}
use Rattle.plan_model.specs.Contents.{Contents}
use Rattle.derived_figures.proofs.outlines.Outline.known.Goals as goal

pub of-requires : goal.of-requires
of-requires c = subst (λ (P : Contents). AreStatuses P c.statuses.result.now) (sym c.self.view_is) c.statuses.ensures

pub returns : goal.returns
returns c = c.of.ensures ∙ c.self.view_is
