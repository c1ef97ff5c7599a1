use Rattle.std.proofs.Common.{◌≡◌, ap, subst, true, Decides}
use Rattle.std.specs.FinMap.{contains_key, get}
use Rattle.plan_basics.specs.Keys.{Name}
use Rattle.plan_drafts.proofs.Tables.{some_is}
use Rattle.plan_model.specs.Contents.{Contents, Operation}
use Rattle.plan_checks.proofs.ComingIn.{found_told}
use Rattle.plan_checks.proofs.known.has_workstation.Goals as goal

pub returns : goal.returns
returns c =
    let Q = c.uncounted.result.contents.now in
    let name = c.operation.inside.workstation in
    let has = c.is_some.result in
    let told = found_told (get Q.workstations name) c.workstation.result _ c.workstation.ensures.found c.workstation.ensures.absent (λ ws at. some_is (get Q.workstations name) _ at.1) has c.is_some.ensures in
    subst (λ (w : Name). Decides has (contains_key c.args.plan.now.workstations w ≡ true)) (ap (λ (op : Operation). op.workstation) c.operation.view_is)
    (subst (λ (R : Contents). Decides has (contains_key R.workstations name ≡ true)) c.uncounted.ensures.contents told)
