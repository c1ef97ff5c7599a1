-- The minutes of the night's civil dates and times.
use Rattle.std.proofs.Common.{◌≡◌, refl, pos}
use Rattle.jiff_core.specs.Calendar.{days_from_civil, day_count, days_of_years, days_of_months}
use Rattle.plan_basics.specs.Minutes.{civil_minute}
use Rattle.worked_examples.specs.Statements.{MomentsOfTheNight}

-- the days from the calendar's day 0
pub first_of_march : days_from_civil (pos 2024) 3 1 ≡ pos 19783
unfolding days_from_civil day_count days_of_years days_of_months
first_of_march = refl

pub second_of_march : days_from_civil (pos 2024) 3 2 ≡ pos 19784
unfolding days_from_civil day_count days_of_years days_of_months
second_of_march = refl

pub moments_are : MomentsOfTheNight
moments_are = (rw first_of_march refl, rw first_of_march refl, rw first_of_march refl, rw first_of_march refl, rw first_of_march refl, rw first_of_march refl, rw second_of_march refl, rw second_of_march refl, rw second_of_march refl, rw second_of_march refl, rw second_of_march refl, rw second_of_march refl, rw second_of_march refl)

-- the latest starts of the night's operations
pub starts_are : (civil_minute 2024 3 2 2 59 ≡ pos 27437939) × (civil_minute 2024 3 2 3 9 ≡ pos 27437949) × (civil_minute 2024 3 2 3 39 ≡ pos 27437979) × (civil_minute 2024 3 2 4 39 ≡ pos 27438039) × (civil_minute 2024 3 2 4 40 ≡ pos 27438040)
starts_are = (rw second_of_march refl, rw second_of_march refl, rw second_of_march refl, rw second_of_march refl, rw second_of_march refl)
