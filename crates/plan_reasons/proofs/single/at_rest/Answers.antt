use Rattle.std.proofs.Common.{sym, subst, ◌∙◌, Some}
use Rattle.plan_reasons.specs.Parts.{IsOfKind}
use Rattle.plan_reasons.specs.declared.reasons.Reason.TheVariants as reason
use Rattle.plan_reasons.proofs.Resting.{none_at_rest, some_at_rest}
use Rattle.plan_reasons.proofs.single.at_rest.Goals as goal

pub returns-then-goes_on_from : goal.returns-then-goes_on_from
returns-then-goes_on_from c P valid o m is = none_at_rest P o m c.args.reported.now is (sym c.goes_on_from.ensures ∙ c.if-goes_on_from.true)

pub returns-else-goes_on_from : goal.returns-else-goes_on_from
returns-else-goes_on_from c P valid o m is =
    let x = c.args.reported.now in
    subst (λ k. IsOfKind P o x.operation.now m 0 (Some (reason.AtRest (record { status = x.status; beginning = k })))) (sym c.beginning_of.ensures)
    (some_at_rest P o m x is (sym c.goes_on_from.ensures ∙ c.if-goes_on_from.false))
