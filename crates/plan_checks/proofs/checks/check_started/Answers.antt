use Rattle.std.proofs.Common.{◌≡◌, inr, sym, subst, ◌∙◌, ◌<◌, true, false, true≢false, rules, Some, Result, Ok, Err, IfErr}
use Rattle.plan_basics.specs.declared.Refusal.{Refusal}
use Rattle.plan_basics.specs.declared.Refusal.TheVariants as refusal
use Rattle.plan_basics.specs.Refusals.{number_of, IsLeastRefusal, NoneRefuses}
use Rattle.derived_figures.specs.start_choice.specs.Choices.{HasTaken}
use Rattle.plan_model.specs.Contents.{Contents}
use Rattle.plan_model.specs.Starts.{MayStart}
use Rattle.plan_records.specs.Acceptance.{MayBeStarted}
use Rattle.plan_checks.proofs.Permitting.{before_line, has_taken, line_by_line, startable, startable_told}
use Rattle.plan_checks.proofs.Reporting.{failed_at, met_at}
use Rattle.plan_checks.proofs.Searching.{if_ok}
use Rattle.plan_checks.specs.Bars.{MayBeStartedAt}
use Rattle.plan_checks.proofs.checks.check_started.Goals as goal

pub returns-in-Automatic : goal.returns-in-Automatic
returns-in-Automatic c =
    let P = c.args.outline.now in
    let x = c.args.reported.now in
    let o = c.args.key.now in
    let lines = MayBeStartedAt x c.args.at in
    let told = c.check_started_on_automatic in
    record { ok = met_at P o x lines c.requires told.result (told.ensures.ok c.args.at); refused = failed_at P o x lines c.requires told.result (told.ensures.refused c.args.at) }

pub returns-in-StartAndCompletion-clause-refused : goal.returns-in-StartAndCompletion-clause-refused
returns-in-StartAndCompletion-clause-refused c =
    let P = c.args.outline.now in
    let x = c.args.reported.now in
    let o = c.args.key.now in
    let m = c.args.at in
    let no : c.is_startable.result ≡ false = search rules in
    inr (subst (λ a. IsLeastRefusal (MayBeStarted P m o x.operation.now (Some a)) refusal.WrongStatus) (sym c.in-StartAndCompletion.is)
    (λ may. true≢false (sym (startable_told P o x c.requires m may) ∙ sym c.is_startable.ensures ∙ no), before_line P o x.operation.now m))

if_err : {T : Type 0} {A B C D : Refusal → Type 0} (r : Result T Refusal) → IfErr r A → IfErr r B → IfErr r C → ((e : Refusal) → A e → B e → C e → D e) → IfErr r D
if_err (Ok t) a b z f = tt
if_err (Err e) a b z f = f e a b z

pub returns-in-StartAndCompletion-2 : goal.returns-in-StartAndCompletion-2
returns-in-StartAndCompletion-2 c =
    let P = c.args.outline.now in
    let o = c.args.key.now in
    let op = c.args.reported.now.operation.now in
    let m = c.args.at in
    let yes : c.is_startable.result ≡ true = search rules in
    let may : MayStart P o op m refusal.WrongStatus = startable P o c.args.reported.now c.requires m c.in-StartAndCompletion.is (sym c.is_startable.ensures ∙ yes) in
    let held = c.holdings.result.now.held in
    let taken = c.given_out_at-taken.result in
    let has : HasTaken P c.uncounted-uncounted.result.contents.now op taken held =
    subst (λ (Q : Contents). HasTaken P Q op taken held) (sym c.uncounted-uncounted.ensures.contents) (has_taken P op taken held c.given_out_at-taken.ensures c.holdings.ensures) in
    record {
      ok = if_ok c.check_start.result c.check_start.ensures.ok (λ met.
          subst (λ z. NoneRefuses (MayBeStarted P m o op (Some z))) (sym c.in-StartAndCompletion.is)
          (λ r. line_by_line P o op m (λ _. Unit {0}) may (λ line first _. met P has line first) r tt));
      refused = if_err c.check_start.result c.check_start.ensures.line c.check_start.ensures.refused c.check_start.ensures.least (λ r line never least.
          inr (subst (λ z. IsLeastRefusal (MayBeStarted P m o op (Some z)) r) (sym c.in-StartAndCompletion.is)
          (never P has, line_by_line P o op m (λ lower. number_of lower < number_of r) may (λ lower first less. least P has lower first less))));
    }
