use Rattle.std.proofs.Common.{◌≡◌, sym, ◌∙◌, ap, subst, Option, Some}
use Rattle.std.specs.Prelude.{Decides}
use Rattle.plan_reasons.specs.declared.reasons.Reason.{Reason}
use Rattle.plan_reasons.specs.declared.reasons.Reason.TheVariants as reason
use Rattle.plan_outlooks.specs.Lacks.{HasOf}
use Rattle.plan_outlooks.proofs.paths.has_of.Goals as goal

pub returns-in-Lacks : goal.returns-in-Lacks
returns-in-Lacks c = λ F q lent at.
    let same : c.args.lack.now ≡ Some (reason.Lacks c.in-Lacks.shortage) = c.in-Some.is ∙ ap Some c.in-Lacks.is in
    subst (λ (z : Option Reason). Decides c.has_of_supply.result (HasOf F.plan.contents q z)) (sym same) (c.has_of_supply.ensures F q lent at)

pub returns-in-HeldBy : goal.returns-in-HeldBy
returns-in-HeldBy c = λ F q lent at.
    let same : c.args.lack.now ≡ Some (reason.HeldBy c.in-HeldBy.obstacle) = c.in-Some.is ∙ ap Some c.in-HeldBy.is in
    subst (λ (z : Option Reason). Decides c.is_holder.result (HasOf F.plan.contents q z)) (sym same) (c.is_holder.ensures F q lent at)

pub returns-in-TooLittleLeft : goal.returns-in-TooLittleLeft
returns-in-TooLittleLeft c = λ F q lent at.
    let same : c.args.lack.now ≡ Some (reason.TooLittleLeft c.in-TooLittleLeft.scarcity) = c.in-Some.is ∙ ap Some c.in-TooLittleLeft.is in
    subst (λ (z : Option Reason). Decides c.has_of_resource.result (HasOf F.plan.contents q z)) (sym same) (c.has_of_resource.ensures F q lent at)
