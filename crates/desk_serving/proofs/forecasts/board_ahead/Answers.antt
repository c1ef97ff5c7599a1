use Rattle.std.proofs.Common.{◌≡◌, ◌∙◌, ap, sym, ℕ, None}
use Rattle.std.proofs.lemmas.Result.{IfOk-weaker}
use Rattle.board_pages.specs.Boards.{IsBoard}
use Rattle.board_pages.specs.forecast_texts.specs.plan_outlooks.specs.forecasting.specs.Known.{since_in}
use Rattle.plan_reports.specs.desk_tables.specs.plan_model.specs.Plan.{Plan}
use Rattle.desk_serving.specs.Shown.{until_refusal_of, view_of}
use Rattle.desk_serving.proofs.Board.{handed_on, owes_any, owes_moment, owes_none, owes_that}
use Rattle.desk_serving.proofs.Clock.{at_clock, memory_alone}
use Rattle.desk_serving.proofs.forecasts.board_ahead.Goals as goal

pub returns-clause-page : goal.returns-clause-page
returns-clause-page g c =
    let page = rw c.in_ok-until.ensures.moment at c.board_made.ensures.page in
    at_clock (λ P m. IsBoard P (since_in c.args.known.now) m (view_of c.args.query) c.args.watch.now) _ c.args.desk.now.plan c.clock-2.result c.in_ok-plan.ensures.plan c.clock-2.ensures.value c.board_made.result page

pub returns-clause-none_owed : goal.returns-clause-none_owed
returns-clause-none_owed g c =
    let d = c.args.desk.now in
    let u = c.args.query.until in
    let moment : c.clock.result ≡ d.plan.clock = c.clock.ensures.value ∙ ap (λ (P : Plan). P.clock) c.in_ok-plan.ensures.plan in
    let none = owes_moment d.is_usable d.plan u c.in_ok-plan.ensures.none_owed ∙ ap (λ (m : ℕ). until_refusal_of m u) (sym moment) ∙ c.in_ok-until.ensures.none_owed in
    IfOk-weaker c.board_made.result _ _ (λ page made. none) c.board_made.ensures.page

pub returns-clause-refused : goal.returns-clause-refused
returns-clause-refused g c =
    let d = c.args.desk.now in
    let u = c.args.query.until in
    let is = c.in_ok-plan.ensures.plan in
    let moment : c.clock.result ≡ d.plan.clock = c.clock.ensures.value ∙ ap (λ (P : Plan). P.clock) is in
    let begin : c.clock-2.result ≡ d.plan.clock = c.clock-2.ensures.value ∙ ap (λ (P : Plan). P.clock) is in
    let known : until_refusal_of d.plan.clock u ≡ None = ap (λ (m : ℕ). until_refusal_of m u) (sym moment) ∙ c.in_ok-until.ensures.none_owed in
    let memory = memory_alone d.is_usable d.plan (rw is at c.clock.ensures.sound) c.in_ok-plan.ensures.none_owed c.board_made.result (rw (begin, is) at c.board_made.ensures.refused) in
    owes_none d.is_usable d.plan u c.board_made.result c.in_ok-plan.ensures.none_owed known memory

pub returns-in_err-plan-clause-refused : goal.returns-in_err-plan-clause-refused
returns-in_err-plan-clause-refused g c =
    let d = c.args.desk.now in
    handed_on _ c.from_residual.result c.in_err-plan.field-0.0 c.from_residual.ensures.1 (owes_any d.is_usable d.plan c.args.query.until _ c.in_err-plan.ensures.refused)

pub returns-in_err-until-clause-refused : goal.returns-in_err-until-clause-refused
returns-in_err-until-clause-refused g c =
    let d = c.args.desk.now in
    let u = c.args.query.until in
    let moment : c.clock.result ≡ d.plan.clock = c.clock.ensures.value ∙ ap (λ (P : Plan). P.clock) c.in_ok-plan.ensures.plan in
    handed_on _ c.from_residual-in_err-until.result c.in_err-until.field-0.0 c.from_residual-in_err-until.ensures.1 (owes_that d.is_usable d.plan u _ c.in_ok-plan.ensures.none_owed (ap (λ (m : ℕ). until_refusal_of m u) (sym moment) ∙ c.in_err-until.ensures.refused))
