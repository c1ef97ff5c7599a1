-- PAYROLL's 20 lasts an hour in each forecast.
use Rattle.std.proofs.Common.{◌≡◌, inl, inr, refl, sym, ◌∙◌, ap, arith, ℕ, ◌+◌, ◌≤◌, List, Option, Some, None}
use Rattle.std.proofs.lemmas.Option.{same_Some}
use Rattle.std.specs.FinMap.{get}
use Rattle.plan_basics.specs.declared.keys.OpKey.{OpKey}
use Rattle.status_rules.specs.declared.Mark.{Mark}
use Rattle.status_rules.specs.declared.Mark.TheVariants as mark
use Rattle.plan_model.specs.Contents.{Contents, Operation}
use Rattle.plan_model.specs.Ready.{with_mark}
use Rattle.plan_records.specs.Changes.{is_at, marked}
use Rattle.plan_records.specs.declared.Request.{Request}
use Rattle.plan_forecast.proofs.Early.{none_ends_early}
use Rattle.plan_forecast.specs.Ahead.{Ahead, IsForecast}
use Rattle.plan_forecast.specs.Laws.{IsStartTaken}
use Rattle.worked_examples.specs.Begun.{StartsThatCount, ThirdLastsAnHour, third_running}
use Rattle.worked_examples.specs.Day.{loaded_at}
use Rattle.worked_examples.specs.Night.{done, end_of_second, night, payroll_at, third_started}
use Rattle.worked_examples.proofs.NightReports.{found_at, found_done, found_revised, p20}

-- 20 as it is where it has this mark
abbrev with_third : Mark → Contents
with_third M = marked (payroll_at 20) M (done 10 (done 5 night))

third_is : (M : Mark) → get (with_third M).operations (payroll_at 20) ≡ Some (with_mark M p20)
third_is M =
    found_revised (is_at (payroll_at 20)) (with_mark M) (done 10 (done 5 night)) (payroll_at 20) p20
    (found_done 10 (done 5 night) (payroll_at 20) p20 (found_done 5 night (payroll_at 20) p20 (found_at (payroll_at 20))))

-- it lasts an hour from what is taken as its start
lasts : (M : Mark) (known : OpKey → Option ℕ) (clock m until : ℕ) (requests : List Request) (last : Ahead) (b e : ℕ) → IsForecast (loaded_at clock (with_third M)) known m until requests last
    → IsStartTaken (with_third M) known m (payroll_at 20) b → last.done (payroll_at 20) ≡ Some e → b + 60 ≤ e
lasts M known clock m until requests last b e forecast taken ends =
    let h = none_ends_early (loaded_at clock (with_third M)) known m until requests last forecast (payroll_at 20) b e taken ends in
    let same : h.0 ≡ with_mark M p20 = same_Some h.0 (with_mark M p20) (sym h.1 ∙ third_is M) in
    let hour : h.0.duration ≡ 60 = ap (λ (x : Operation). x.duration) same in
    let over = h.2 in
    omega (arith, hour, over)

pub third_lasts_an_hour : ThirdLastsAnHour
third_lasts_an_hour = (
  (λ known clock m until requests last e start forecast ends. lasts mark.Running known clock m until requests last end_of_second e forecast (inl ((with_mark mark.Running p20, third_is mark.Running, refl), start)) ends),
  (λ known clock m until requests last e start forecast ends. lasts mark.Running known clock m until requests last m e forecast (inr (inl ((with_mark mark.Running p20, third_is mark.Running, refl), start, refl))) ends),
  (λ known clock m until requests last e start forecast ends. lasts mark.Named known clock m until requests last m e forecast (inr (inr ((with_mark mark.Named p20, third_is mark.Named, refl), refl))) ends),
)

pub starts_that_count : StartsThatCount
starts_that_count = (refl, refl, refl, refl)
