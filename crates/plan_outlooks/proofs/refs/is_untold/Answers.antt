use Rattle.std.proofs.Common.{◌≡◌, refl, sym, ◌∙◌, ap, subst, false, ℕ, Some, Option}
use Rattle.std.specs.Prelude.{Decides}
use Rattle.std.specs.FinMap.{get}
use Rattle.plan_basics.specs.declared.keys.OpKey.{OpKey}
use Rattle.forecasting.specs.Known.{since_in}
use Rattle.plan_model.specs.Contents.{Contents, Operation}
use Rattle.plan_outlooks.specs.Forecasts.{IsUntold, is_named}
use Rattle.plan_outlooks.proofs.Deciding.{not_by}
use Rattle.plan_outlooks.proofs.OperationRows.{at_plan}
use Rattle.plan_outlooks.proofs.UnknownTold.{told_if_named, untold_by}
use Rattle.plan_outlooks.proofs.refs.is_untold.Goals as goal

pub returns-then-is_named : goal.returns-then-is_named
returns-then-is_named c = λ F o lent at.
    let x = c.args.refs.now in
    let is = c.reported_at-reported.ensures o at.0 (at_plan F x lent c.args.place o at) in
    let op = c.reported_at-reported.result.operation.now in
    let there : get F.plan.contents.operations o ≡ Some op = ap (λ (P : Contents). get P.operations o) (sym lent.plan) ∙ is.operation in
    not_by (IsUntold F o) false refl (told_if_named F o op there (ap (λ (z : Operation). is_named z.mark) (sym c.operation.view_is) ∙ sym c.is_named.ensures ∙ c.if-is_named.true))

pub returns : goal.returns
returns c = λ F o lent at.
    let x = c.args.refs.now in
    let row = at_plan F x lent c.args.place o at in
    let is = c.reported_at-reported.ensures o at.0 row in
    let op = c.reported_at-reported.result.operation.now in
    let there : get F.plan.contents.operations o ≡ Some op = ap (λ (P : Contents). get P.operations o) (sym lent.plan) ∙ is.operation in
    let unnamed = ap (λ (z : Operation). is_named z.mark) (sym c.operation.view_is) ∙ sym c.is_named.ensures ∙ c.if-is_named.false in
    let known : c.start_of.result ≡ F.known o = c.start_of.ensures ∙ ap (since_in x.known.now) (c.key_at.ensures o at.0 row) ∙ sym (ap (λ (f : OpKey → Option ℕ). f o) lent.known) in
    subst (λ b. Decides b (IsUntold F o)) (sym c.is_unknown.ensures) (untold_by F o op there unnamed c.start_of.result known)
