-- PAYROLL's 20 is started, and forecasts are made of the night's plan: when it ends at the earliest.
use Rattle.std.specs.Prelude.{◌≡◌, ℕ, ◌+◌, ◌≤◌, List, Option, Some, None}
use Rattle.plan_basics.specs.declared.keys.OpKey.{OpKey}
use Rattle.status_rules.specs.declared.Mark.TheVariants as mark
use Rattle.plan_model.specs.Contents.{Contents}
use Rattle.plan_records.specs.Changes.{marked}
use Rattle.plan_records.specs.declared.Request.{Request}
use Rattle.plan_forecast.specs.Ahead.{Ahead, IsForecast, start_by}
use Rattle.worked_examples.specs.Day.{evening, loaded_at}
use Rattle.worked_examples.specs.Night.{done, end_of_second, night, payroll_at, third_started}
use Rattle.worked_examples.specs.Trio.{half_past_three, three}

-- 5 and 10 are done, and the start of 20 is reported
abbrev pub third_running : Contents
third_running = marked (payroll_at 20) mark.Running (done 10 (done 5 night))

-- in each forecast of this plan from m on, by such a known start of 20, 20 ends no earlier than at this minute
abbrev pub EndsNotBefore : Contents → Option ℕ → (ℕ → ℕ) → Type 0
EndsNotBefore P start first =
    (known : OpKey → Option ℕ) (clock m until : ℕ) (requests : List Request) (last : Ahead) (e : ℕ) → known (payroll_at 20) ≡ start
    → IsForecast (loaded_at clock P) known m until requests last → last.done (payroll_at 20) ≡ Some e → first m ≤ e

-- it lasts an hour: from 22:40, where its start was reported then; from the forecast's minute on, where nobody knows since when it runs, or it was only named, whenever that was
abbrev pub ThirdLastsAnHour : Type 0
ThirdLastsAnHour =
    EndsNotBefore third_running (Some end_of_second) (λ m. end_of_second + 60)
    × EndsNotBefore third_running None (λ m. m + 60)
    × EndsNotBefore third_started (Some evening) (λ m. m + 60)

-- what counts of a start: nothing of what was only named; of what runs its reported start; where completion alone is reported, not before its not-before
abbrev pub StartsThatCount : Type 0
StartsThatCount =
    (start_by mark.Named three (Some evening) ≡ None)
    × (start_by mark.Running half_past_three (Some three) ≡ Some three)
    × (start_by mark.Unmarked half_past_three (Some three) ≡ Some half_past_three)
    × (start_by mark.Unmarked three (Some half_past_three) ≡ Some half_past_three)
