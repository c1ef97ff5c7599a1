use Rattle.std.proofs.Common.{sym, ◌∙◌, subst, Result, Ok, Err, IfErr, Decides}
use Rattle.plan_basics.specs.declared.Refusal.{Refusal}
use Rattle.plan_checks.proofs.Searching.{if_ok}
use Rattle.plan_forecast.specs.Ahead.{MayBegin}
use Rattle.plan_model.specs.Contents.{Contents}
use Rattle.derived_figures.specs.start_choice.specs.Choices.{HasTaken}
use Rattle.plan_checks.proofs.Permitting.{has_taken}
use Rattle.forecasting.proofs.Deciding.{by_check}
use Rattle.forecasting.proofs.starting.may_begin.Goals as goal

if_refused : {T : Type 0} {A B : Refusal → Type 0} (r : Result T Refusal) → IfErr r A → ((e : Refusal) → A e → B e) → IfErr r B
if_refused (Ok t) h f = tt
if_refused (Err e) h f = f e h

pub returns : goal.returns
returns c =
    let P = c.args.outline.now in
    let op = c.args.reported.now.operation.now in
    let held = c.holdings.result.now.held in
    let taken = c.given_out_at-taken.result in
    let has : HasTaken P c.uncounted-uncounted.result.contents.now op taken held =
    subst (λ (Q : Contents). HasTaken P Q op taken held) (sym c.uncounted-uncounted.ensures.contents) (has_taken P op taken held c.given_out_at-taken.ensures c.holdings.ensures) in
    let on = c.is_same.ensures.0 c.if-not-is_same.false in
    let ready = sym c.is_ready.ensures ∙ c.if-not-is_ready.false in
    subst (λ b. Decides b (MayBegin c.args.attribute P c.args.key.now c.args.at)) (sym c.is_ok.ensures.value)
    (by_check P c.args.key.now c.args.reported.now c.requires c.uncounted-uncounted.ensures.sound.valid c.args.attribute c.args.at on ready c.check_start.result
    (if_ok c.check_start.result c.check_start.ensures.ok (λ met. met P has))
    (if_refused c.check_start.result c.check_start.ensures.refused (λ e never. never P has)))
