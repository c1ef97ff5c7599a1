use Rattle.std.proofs.Common.{◌≡◌, ◌∙◌, sym, ap, refl, subst, None, Some}
use Rattle.std.specs.FinMap.{get}
use Rattle.plan_model.specs.Contents.{Contents}
use Rattle.plan_shows.proofs.Unloaded.{no_workstation}
use Rattle.plan_shows.proofs.intervals.workstation_of.Goals as goal

pub returns-in-None-clause-absent : goal.returns-in-None-clause-absent
returns-in-None-clause-absent c = λ none. no_workstation c.args.plan.now.plan.contents c.args.name.now (c.in-None.ensures.none refl)
