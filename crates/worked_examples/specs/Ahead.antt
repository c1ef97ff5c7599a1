-- Ten operations of four occurrences at 21:55, and their forecast from 22:00 to 06:00, written by hand.
use Rattle.std.specs.Prelude.{ℕ, ◌+◌, Bool, true, false, [], ◌∷◌, List, codes, pos}
use Rattle.plan_basics.specs.declared.Attr.TheVariants as attribute
use Rattle.plan_basics.specs.declared.keys.OccKey.{OccKey}
use Rattle.plan_basics.specs.declared.keys.OpKey.{OpKey}
use Rattle.plan_basics.specs.declared.limits.TheConstants.{HIGHEST_PRIORITY}
use Rattle.plan_basics.specs.Intervals.{interval_by}
use Rattle.plan_basics.specs.Keys.{Name}
use Rattle.status_rules.specs.declared.Mark.{Mark}
use Rattle.status_rules.specs.declared.Mark.TheVariants as mark
use Rattle.plan_model.specs.declared.Occurrence.{Occurrence}
use Rattle.plan_records.specs.declared.Request.{Request}
use Rattle.plan_records.specs.declared.What.{What}
use Rattle.plan_records.specs.declared.What.TheVariants as what
use Rattle.plan_forecast.specs.Ahead.{IsForecast, tick}
use Rattle.worked_examples.specs.Billing.{billing}
use Rattle.worked_examples.specs.Day.{cpu1, evening, loaded_at, morning}
use Rattle.worked_examples.specs.Night.{end_of_night, payroll, prt1, setp}
use Rattle.worked_examples.specs.Written.{Lines, Planned, Sheet, plan_of, time_of, told}

-- another automatic workstation
abbrev pub cpu2 : Name
cpu2 = codes "CPU2"

-- 22:00 and so many minutes
abbrev pub after : ℕ → ℕ
after minutes = evening + minutes

-- REPORT, of the same evening
abbrev pub report : OccKey
report = record { app = codes "REPORT"; arrival = evening }

-- STOCK, too
abbrev pub stock : OccKey
stock = record { app = codes "STOCK"; arrival = evening }

-- an occurrence's operation of a number
abbrev pub at : OccKey → ℕ → OpKey
at occurrence number = record { occurrence = occurrence; number = number }

-- of this priority, with the deadline 05:00
abbrev pub by_morning : ℕ → Occurrence
by_morning priority = record { priority = priority; deadline = morning }

-- two automatic workstations, one where completions alone are reported, and one where starts are too, each with one server until 07:00; BILLING is of the highest priority; within an occurrence each operation waits for the one before it
abbrev pub ten_sheet : Sheet
ten_sheet = record {
  attributes = (cpu1, attribute.Automatic) ∷ (cpu2, attribute.Automatic) ∷ (prt1, attribute.CompletionOnly) ∷ (setp, attribute.StartAndCompletion) ∷ [];
  interval = interval_by evening (end_of_night + 60) 1 0 0;
  occurrences = (billing, by_morning HIGHEST_PRIORITY) ∷ (payroll, by_morning 5) ∷ (report, by_morning 5) ∷ (stock, by_morning 5) ∷ [];
  pairs =
      (at billing 10, at billing 20)
      ∷ (at billing 20, at billing 30)
      ∷ (at billing 30, at billing 40)
      ∷ (at payroll 10, at payroll 20)
      ∷ (at payroll 20, at payroll 30)
      ∷ (at stock 10, at stock 20)
      ∷ [];
}

-- by workstation, duration and not-before, and whether it needs CUSTFILE alone
abbrev pub planned : Name → ℕ → ℕ → Bool → Planned
planned workstation duration not_before file = record { workstation = workstation; duration = duration; not_before = not_before; file = file }

-- the ten, by key: REPORT's isn't to begin before 22:15, and BILLING's last not before 00:30
abbrev pub ten_planned : List (OpKey × Planned)
ten_planned =
    (at billing 10, planned setp 20 0 false)
    ∷ (at billing 20, planned cpu1 60 0 true)
    ∷ (at billing 30, planned cpu1 30 0 false)
    ∷ (at billing 40, planned prt1 20 (after 150) false)
    ∷ (at payroll 10, planned cpu2 15 0 false)
    ∷ (at payroll 20, planned cpu2 60 0 true)
    ∷ (at payroll 30, planned cpu2 30 0 false)
    ∷ (at report 10, planned cpu1 20 (after 15) false)
    ∷ (at stock 10, planned cpu2 30 0 false)
    ∷ (at stock 20, planned cpu1 15 0 false)
    ∷ []

-- 21:50, when PAYROLL's second was reported started
abbrev pub start_of_payroll : ℕ
start_of_payroll = 27437630

-- that start is known, and no other
abbrev pub known_starts : List (OpKey × ℕ)
known_starts = (at payroll 20, start_of_payroll) ∷ []

-- 21:55, the plan's clock
abbrev pub five_to_ten : ℕ
five_to_ten = 27437635

-- STOCK's first ended in error
abbrev pub in_error : Mark
in_error = mark.Error (codes "S0C7")

-- as it is then: PAYROLL's first is complete, its second runs and has CUSTFILE, and STOCK's first is in error
abbrev pub ten_before : Lines
ten_before =
    told ten_planned
    (mark.Unmarked ∷ mark.Unmarked ∷ mark.Unmarked ∷ mark.Unmarked ∷ mark.Done ∷ mark.Running ∷ mark.Unmarked ∷ mark.Unmarked ∷ in_error ∷ mark.Unmarked ∷ [])

-- as it will be at 00:50: STOCK's second never begins
abbrev pub ten_after : Lines
ten_after = told ten_planned (mark.Done ∷ mark.Done ∷ mark.Done ∷ mark.Done ∷ mark.Done ∷ mark.Done ∷ mark.Done ∷ mark.Done ∷ in_error ∷ mark.Unmarked ∷ [])

-- since when each will have been going
abbrev pub ten_begins : List (OpKey × ℕ)
ten_begins =
    (at payroll 20, start_of_payroll)
    ∷ (at billing 10, after 0)
    ∷ (at report 10, after 15)
    ∷ (at billing 20, after 50)
    ∷ (at payroll 30, after 50)
    ∷ (at billing 30, after 110)
    ∷ (at billing 40, after 150)
    ∷ []

-- when each will have been complete; what was complete before counts from the first tick on
abbrev pub ten_ends : List (OpKey × ℕ)
ten_ends =
    (at payroll 10, after 0)
    ∷ (at billing 10, after 20)
    ∷ (at report 10, after 35)
    ∷ (at payroll 20, after 50)
    ∷ (at payroll 30, after 80)
    ∷ (at billing 20, after 110)
    ∷ (at billing 30, after 140)
    ∷ (at billing 40, after 170)
    ∷ []

-- so many minutes after 22:00
abbrev pub request_after : ℕ → What → Request
request_after minutes w = record { at = pos (after minutes); what = w }

-- what is done, minute by minute: BILLING's first begins at once on SETP; REPORT's begins at its not-before, so that BILLING's second, ready from 22:20 on, first lacks CPU1's server; from 22:35 on it lacks CUSTFILE, until PAYROLL's second ends at 22:50
abbrev pub ten_requests : List Request
ten_requests =
    tick evening
    ∷ request_after 0 (what.Started (at billing 10))
    ∷ request_after 15 what.Tick
    ∷ request_after 20 (what.Ended (at billing 10))
    ∷ request_after 35 (what.Ended (at report 10))
    ∷ request_after 50 (what.Ended (at payroll 20))
    ∷ request_after 80 (what.Ended (at payroll 30))
    ∷ request_after 110 (what.Ended (at billing 20))
    ∷ request_after 140 (what.Ended (at billing 30))
    ∷ request_after 170 (what.Ended (at billing 40))
    ∷ []

-- the whole forecast: these requests and no others, with these beginnings and ends
abbrev pub ForecastOfTen : Type 0
ForecastOfTen =
    IsForecast (loaded_at five_to_ten (plan_of ten_sheet ten_before)) (time_of known_starts) evening end_of_night ten_requests
    (record { plan = loaded_at (after 170) (plan_of ten_sheet ten_after); since = time_of ten_begins; done = time_of ten_ends })
