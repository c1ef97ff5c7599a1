use Rattle.std.proofs.Common.{ap, sym, ◌∙◌}
use Rattle.std.specs.FinMap.{get}
use Rattle.plan_drafts.proofs.Tables.{some_is}
use Rattle.plan_model.specs.Contents.{Contents}
use Rattle.plan_checks.proofs.ByCommand.{available}
use Rattle.plan_checks.proofs.commands.check_available.Goals as goal

pub returns-in-Some-clause-ok : goal.returns-in-Some-clause-ok
returns-in-Some-clause-ok c =
    let P = c.args.outline.now in
    let name = c.args.name.now in
    let is = ap (λ (Q : Contents). get Q.resources name) (sym c.uncounted.ensures.contents) ∙ sym c.resource.ensures ∙ c.in-Some.is in
    available P name (some_is (get P.resources name) _ is)
