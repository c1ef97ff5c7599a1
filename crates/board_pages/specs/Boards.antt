-- The board's page of a forecast of a plan.
use Rattle.std.specs.Prelude.{◌≡◌, Bool, true, false, ℕ, List, filter, length, Option}
use Rattle.plan_basics.specs.declared.keys.OpKey.{OpKey}
use Rattle.plan_model.specs.Contents.{Contents}
use Rattle.plan_model.specs.Plan.{Plan}
use Rattle.forecast_texts.specs.plan_outlooks.specs.Outlooks.{IsOutlook}
use Rattle.forecast_texts.specs.plan_outlooks.specs.declared.rows.Outlooks.{Outlooks}
use Rattle.forecast_texts.specs.plan_outlooks.specs.plan_reasons.specs.plan_core.specs.Views.{AreOpViews}
use Rattle.forecast_texts.specs.plan_outlooks.specs.plan_reasons.specs.plan_core.specs.declared.views.OpView.{OpView}
use Rattle.status_rules.specs.declared.Status.{Status}
use Rattle.status_rules.specs.declared.Status.TheVariants.{Complete}
use Rattle.board_pages.specs.Pages.{IsBoardPage}
use Rattle.board_pages.specs.declared.views.View.{View}
use Rattle.board_pages.specs.declared.views.Watch.{Watch}

-- whether a status is complete
abbrev pub is_complete : Status → Bool
is_complete Complete = true
is_complete s = false

-- so many operations of the plan are complete
abbrev pub IsCompleteCount : Contents → ℕ → Type 0
IsCompleteCount P n = (views : List OpView) × AreOpViews P views × (n ≡ length (filter (λ v. is_complete v.status) views))

-- the text is the board's page of what is read off a forecast of this plan, looked at so, at a desk that knows this
abbrev pub IsBoard : Plan → (OpKey → Option ℕ) → ℕ → View → Option Watch → List ℕ → Type 0
IsBoard P known from view watch text =
    (x : Outlooks) × IsOutlook P known from view.until x × ((n : ℕ) × IsCompleteCount P.contents n × IsBoardPage x n view watch text)
