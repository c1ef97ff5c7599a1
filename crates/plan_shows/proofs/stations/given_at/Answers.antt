use Rattle.std.proofs.Common.{◌∙◌, sym, subst}
use Rattle.std.specs.FinMap.{entries}
use Rattle.plan_model.specs.Contents.{Contents}
use Rattle.plan_reasons.specs.plan_core.specs.plan_status.specs.Summaries.{AreSummaries}
use Rattle.plan_reasons.specs.plan_core.specs.start_choice.specs.Choices.{AreGivenOut}
use Rattle.plan_shows.proofs.stations.given_at.Goals as goal

pub given_out_of-requires : goal.given_out_of-requires
given_out_of-requires c =
    subst (λ (Q : Contents). AreSummaries Q c.deref.result.now) (c.valid.ensures.contents ∙ sym c.of.ensures.contents) (subst (AreSummaries c.valid.result.now) (sym c.deref.ensures.value) c.in_ok-summaries.ensures)

pub returns : goal.returns
returns c = subst (λ (Q : Contents). AreGivenOut Q (entries Q.workstations) c.in_ok-given.given.items) (c.of.ensures.contents ∙ c.contents-contents.ensures.contents) c.in_ok-given.ensures
