use Rattle.std.proofs.Common.{◌≡◌, refl, sym, ◌∙◌, ap, false, true, true≢false, Some}
use Rattle.std.specs.FinMap.{get}
use Rattle.plan_model.specs.Contents.{Contents, attribute_at}
use Rattle.plan_model.specs.Holdings.{takes}
use Rattle.plan_reasons.specs.declared.reasons.Reason.TheVariants as reason
use Rattle.plan_outlooks.specs.Lacks.{HasOf}
use Rattle.plan_outlooks.proofs.Deciding.{not_by}
use Rattle.plan_outlooks.proofs.Having.{supply_by, takes_by}
use Rattle.plan_outlooks.proofs.OperationRows.{at_plan}
use Rattle.plan_outlooks.proofs.paths.has_of_supply.Goals as goal

pub returns-then-not-takes : goal.returns-then-not-takes
returns-then-not-takes c = λ F q lent at.
    let x = c.args.refs.now in
    let is = c.reported_at-reported.ensures q at.0 (at_plan F x lent c.args.place q at) in
    not_by (HasOf F.plan.contents q (Some (reason.Lacks c.args.shortage.now))) false refl
    (λ h. true≢false (sym (takes_by F.plan.contents q c.reported_at-reported.result.operation.now (ap (λ (P : Contents). get P.operations q) (sym lent.plan) ∙ is.operation) h.0 h.1 h.2.0)
    ∙ ap (λ (P : Contents). takes (attribute_at P c.reported_at-reported.result.operation.now.workstation)) (sym lent.plan) ∙ ap takes is.attribute ∙ sym c.takes.ensures ∙ c.if-not-takes.true))

pub returns : goal.returns
returns c = λ F q lent at.
    let x = c.args.refs.now in
    let is = c.reported_at-reported.ensures q at.0 (at_plan F x lent c.args.place q at) in
    let op = c.reported_at-reported.result.operation.now in
    let there : get F.plan.contents.operations q ≡ Some op = ap (λ (P : Contents). get P.operations q) (sym lent.plan) ∙ is.operation in
    let taking : takes (attribute_at F.plan.contents op.workstation) ≡ true = ap (λ (P : Contents). takes (attribute_at P op.workstation)) (sym lent.plan) ∙ ap takes is.attribute ∙ sym c.takes.ensures ∙ c.if-not-takes.false in
    supply_by F.plan.contents q op c.args.shortage.now there taking c.is_of_supply.result c.is_of_supply.ensures
