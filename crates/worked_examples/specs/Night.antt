-- The night's plan: PAYROLL, a chain of five operations on four workstations that report in four ways, as it is once it was loaded.
use Rattle.std.specs.Prelude.{ℕ, true, [], ◌∷◌, List, codes}
use Rattle.std.specs.FinMap.{from_entries, empty, FinMap}
use Rattle.std.specs.FinSet.{from_list}
use Rattle.plan_basics.specs.declared.Attr.{Attr}
use Rattle.plan_basics.specs.declared.Attr.TheVariants as attribute
use Rattle.plan_basics.specs.declared.keys.OccKey.{OccKey}
use Rattle.plan_basics.specs.declared.keys.OpKey.{OpKey}
use Rattle.plan_basics.specs.declared.limits.TheConstants.{MOST_QUANTITY}
use Rattle.plan_basics.specs.Intervals.{OpenInterval, interval_by}
use Rattle.plan_basics.specs.Keys.{Name, name_cmp}
use Rattle.special_resources.specs.declared.Mode.TheVariants.{Exclusive}
use Rattle.special_resources.specs.Holders.{Usage}
use Rattle.workstations.specs.Workstations.{Workstation}
use Rattle.status_rules.specs.declared.Mark.TheVariants as mark
use Rattle.plan_model.specs.Contents.{Contents, Operation}
use Rattle.plan_model.specs.declared.Occurrence.{Occurrence}
use Rattle.plan_model.specs.declared.Stock.{Stock}
use Rattle.plan_model.specs.Ready.{with_mark}
use Rattle.ready_list.specs.Choice.{is_among}
use Rattle.plan_records.specs.Changes.{is_at, marked, revised}
use Rattle.worked_examples.specs.Day.{cpu1, evening, lasting, morning}

-- 2024-03-01 at 21:00, when the plan is loaded
abbrev pub loading : ℕ
loading = 27437580

-- 2024-03-02 at 02:00
abbrev pub two_at_night : ℕ
two_at_night = 27437880

-- 2024-03-02 at 06:00
abbrev pub end_of_night : ℕ
end_of_night = 27438120

-- where setup is reported by hand
abbrev pub setp : Name
setp = codes "SETP"

-- where completions alone are reported
abbrev pub prt1 : Name
prt1 = codes "PRT1"

-- where nothing is reported
abbrev pub dumm : Name
dumm = codes "DUMM"

-- the special resource
abbrev pub custfile : Name
custfile = codes "CUSTFILE"

-- PAYROLL, of 22:00
abbrev pub payroll : OccKey
payroll = record { app = codes "PAYROLL"; arrival = evening }

-- PAYROLL's operation of a number
abbrev pub payroll_at : ℕ → OpKey
payroll_at number = record { occurrence = payroll; number = number }

-- a workstation by its attribute and its intervals, each with its first minute
abbrev pub workstation_by : Attr → List (ℕ × OpenInterval) → Workstation
workstation_by attribute intervals = record { attribute = attribute; intervals = from_entries intervals }

-- automatic, with two servers and three of R1
abbrev pub cpu1_station : Workstation
cpu1_station = workstation_by attribute.Automatic ((evening, interval_by evening end_of_night 2 3 0) ∷ [])

-- reports its starts and completions, with one server
abbrev pub setp_station : Workstation
setp_station = workstation_by attribute.StartAndCompletion ((evening, interval_by evening two_at_night 1 0 0) ∷ [])

-- reports its completions alone
abbrev pub prt1_station : Workstation
prt1_station = workstation_by attribute.CompletionOnly []

-- reports nothing
abbrev pub dumm_station : Workstation
dumm_station = workstation_by attribute.Nonreporting []

-- an operation of PAYROLL of which nothing is reported
abbrev pub planned : Name → ℕ → FinMap name_cmp Usage → Operation
planned workstation duration needs = record (lasting duration) { workstation = workstation; needs = needs }

-- exclusive, and kept on an error
abbrev pub alone : Usage
alone = record { claim = record { mode = Exclusive; amount = 0 }; keep = true }

-- CUSTFILE, so
abbrev pub needs_custfile : FinMap name_cmp Usage
needs_custfile = from_entries ((custfile, alone) ∷ [])

-- PAYROLL's five operations
abbrev pub night_operations : List (OpKey × Operation)
night_operations =
    (payroll_at 5, planned setp 10 empty)
    ∷ (payroll_at 10, planned cpu1 30 empty)
    ∷ (payroll_at 20, planned cpu1 60 needs_custfile)
    ∷ (payroll_at 30, planned dumm 1 empty)
    ∷ (payroll_at 40, planned prt1 20 empty)
    ∷ []

-- the four workstations
abbrev pub night_workstations : List (Name × Workstation)
night_workstations = (cpu1, cpu1_station) ∷ (setp, setp_station) ∷ (prt1, prt1_station) ∷ (dumm, dumm_station) ∷ []

-- each waits for the one before it
abbrev pub night_pairs : List (OpKey × OpKey)
night_pairs = (payroll_at 5, payroll_at 10) ∷ (payroll_at 10, payroll_at 20) ∷ (payroll_at 20, payroll_at 30) ∷ (payroll_at 30, payroll_at 40) ∷ []

-- PAYROLL alone, of priority 5, with the deadline 05:00
abbrev pub night_occurrences : List (OccKey × Occurrence)
night_occurrences = (payroll, record { priority = 5; deadline = morning }) ∷ []

-- CUSTFILE is available, and there is as much of it as there may be
abbrev pub custfile_stock : Stock
custfile_stock = record { available = true; quantity = MOST_QUANTITY }

-- CUSTFILE alone
abbrev pub night_resources : List (Name × Stock)
night_resources = (custfile, custfile_stock) ∷ []

-- all of it, as it is loaded
abbrev pub night : Contents
night = record {
  workstations = from_entries night_workstations;
  resources = from_entries night_resources;
  occurrences = from_entries night_occurrences;
  operations = from_entries night_operations;
  pairs = from_list night_pairs;
}

-- a plan in which PAYROLL's operation of this number is done
abbrev pub done : ℕ → Contents → Contents
done number P = marked (payroll_at number) mark.Done P

-- a plan in which it is a NOP
abbrev pub passed_by : ℕ → Contents → Contents
passed_by number P = revised (is_at (payroll_at number)) (λ op. record op { nop = true }) P

-- 5, 10 and 20 are done, one after the other
abbrev pub three_done : Contents
three_done = done 20 (done 10 (done 5 night))

-- the same, and 30 is held
abbrev pub fourth_held : Contents
fourth_held = revised (is_at (payroll_at 30)) (λ op. record op { held = true }) three_done

-- 10 and 20 are NOPs, and 5 is done
abbrev pub two_passed : Contents
two_passed = done 5 (passed_by 20 (passed_by 10 night))

-- 5 and 10 are done, and 20 is started
abbrev pub third_started : Contents
third_started = marked (payroll_at 20) mark.Named (done 10 (done 5 night))

-- 2024-03-01 at 22:40
abbrev pub end_of_second : ℕ
end_of_second = 27437680

-- 5 is done, and 10 is started
abbrev pub second_started : Contents
second_started = marked (payroll_at 10) mark.Named (done 5 night)

-- and then 10 ended at 22:40, before anything else is named
abbrev pub second_ended : Contents
second_ended = done 10 second_started

-- 20 is run again after it was done, and with it what follows it
abbrev pub from_third_again : Contents
from_third_again = revised (is_among (payroll_at 20 ∷ payroll_at 30 ∷ payroll_at 40 ∷ [])) (with_mark mark.Unmarked) three_done

-- 5 is run again where 10 and 20 are NOPs, and with it all that follow
abbrev pub from_first_again : Contents
from_first_again = revised (is_among (payroll_at 5 ∷ payroll_at 10 ∷ payroll_at 20 ∷ payroll_at 30 ∷ payroll_at 40 ∷ [])) (with_mark mark.Unmarked) two_passed
