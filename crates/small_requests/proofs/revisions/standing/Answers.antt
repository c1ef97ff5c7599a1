use Rattle.std.proofs.Common.{◌≡◌, ◌∙◌, sym, ap, subst, Some}
use Rattle.std.specs.FinMap.{get}
use Rattle.plan_model.specs.Contents.{Contents}
use Rattle.small_requests.proofs.Written.{puts_resource_back, puts_workstation_back}
use Rattle.small_requests.proofs.revisions.standing.Goals as goal
use Rattle.small_requests.specs.Revisions.{PutsBack}
use Rattle.small_requests.specs.declared.revisions.Revision.TheVariants as revision

pub returns-in-Available : goal.returns-in-Available
returns-in-Available c =
    let P = c.args.records.now.contents in
    let r = c.in-Available.name in
    let old = revision.Available r c.unwrap.result.available in
    let h = puts_resource_back P r _ c.unwrap.result (sym (c.resource.ensures ∙ ap (λ (Q : Contents). get Q.resources r) c.uncounted.ensures.contents) ∙ c.unwrap.ensures) in
    subst (λ x. PutsBack P x old) (sym c.in-Available.is) h

pub returns-in_ok-standing_workstation-in-Opened : goal.returns-in_ok-standing_workstation-in-Opened
returns-in_ok-standing_workstation-in-Opened c =
    let P = c.args.records.now.contents in
    let w = c.in-Opened.workstation in
    let told = c.in_ok-standing_workstation-in-Opened.ensures in
    let name = c.name.ensures in
    let known : get P.workstations w.0 ≡ Some c.in_ok-standing_workstation-in-Opened.field-0.1 = subst (λ n. get P.workstations n ≡ Some c.in_ok-standing_workstation-in-Opened.field-0.1) name told.1 in
    subst (λ x. PutsBack P x (revision.Opened c.in_ok-standing_workstation-in-Opened.field-0)) (sym c.in-Opened.is) (puts_workstation_back P w c.in_ok-standing_workstation-in-Opened.field-0 (told.0 ∙ name) known)
