use Rattle.std.proofs.Common.{◌≡◌, sym, ap, ◌∙◌, Some}
use Rattle.std.specs.FinMap.{get}
use Rattle.plan_model.specs.Contents.{Contents, Operation}
use Rattle.plan_outlooks.proofs.IntervalsNeeds.{opens_by}
use Rattle.plan_outlooks.proofs.paths.opens_at.Goals as goal

pub returns-in-Some : goal.returns-in-Some
returns-in-Some c = λ F o lent is.
    let op = c.args.operation.now in
    let ws = c.in-Some.workstation.now.1 in
    let found : get F.plan.contents.workstations op.workstation ≡ Some ws =
    ap (λ (P : Contents). get P.workstations op.workstation) (sym lent.plan ∙ sym c.contents.ensures.contents) ∙ ap (λ (z : Operation). get c.contents.result.now.workstations z.workstation) (sym c.operation.view_is) ∙ c.in-Some.ensures.found.1 in
    opens_by F.plan.contents o op is ws found c.args.moment c.begins_at.result c.begins_at.ensures
