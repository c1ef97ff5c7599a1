use Rattle.std.proofs.Common.{◌∙◌, ap, subst}
use Rattle.std.specs.FinMap.{entries}
use Rattle.plan_model.specs.Contents.{Contents}
use Rattle.plan_reasons.specs.plan_core.specs.start_choice.specs.Choices.{AreGivenOut}
use Rattle.plan_shows.proofs.stations.views_in.Goals as goal

pub views_of-requires-clause-rows : goal.views_of-requires-clause-rows
views_of-requires-clause-rows c = c.workstations.ensures.rows ∙ ap (λ (Q : Contents). entries Q.workstations) (c.contents.ensures.contents ∙ c.requires)

pub views_of-requires-clause-given : goal.views_of-requires-clause-given
views_of-requires-clause-given c =
    let rows = c.workstations.ensures.rows ∙ ap (λ (Q : Contents). entries Q.workstations) c.contents.ensures.contents in
    rw (rows, c.deref.ensures.value) (subst (λ (Q : Contents). AreGivenOut Q (entries c.args.loaded.now.workstations) c.in_ok-given.given.items) c.requires c.in_ok-given.ensures)
