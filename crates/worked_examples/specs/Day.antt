-- A small plan: one occurrence of two operations on an automatic workstation, the first before the second.
use Rattle.std.specs.Prelude.{ℕ, true, false, [], ◌∷◌, codes}
use Rattle.std.specs.FinMap.{from_entries, empty}
use Rattle.std.specs.FinSet.{from_list}
use Rattle.plan_basics.specs.declared.Attr.TheVariants.{Automatic}
use Rattle.plan_basics.specs.declared.keys.OccKey.{OccKey}
use Rattle.plan_basics.specs.declared.keys.OpKey.{OpKey}
use Rattle.plan_basics.specs.Intervals.{interval_by}
use Rattle.plan_basics.specs.Keys.{Name}
use Rattle.workstations.specs.Workstations.{Workstation}
use Rattle.status_rules.specs.declared.Mark.TheVariants.{Unmarked}
use Rattle.plan_model.specs.Plan.{Plan}
use Rattle.plan_model.specs.Contents.{Contents, Operation, nothing}
use Rattle.plan_model.specs.declared.Occurrence.{Occurrence}

-- 2024-03-01 at 22:00: the minutes of its days from 1972-01-01 on, and of its hours; moments_of_the_night ties each such numeral to its date
abbrev pub evening : ℕ
evening = 27437640

-- 2024-03-02 at 05:00
abbrev pub morning : ℕ
morning = 27438060

-- the workstation
abbrev pub cpu1 : Name
cpu1 = codes "CPU1"

-- DAILY, of the evening
abbrev pub daily : OccKey
daily = record { app = codes "DAILY"; arrival = evening }

-- its operation 10
abbrev pub first : OpKey
first = record { occurrence = daily; number = 10 }

-- its operation 20
abbrev pub second : OpKey
second = record { occurrence = daily; number = 20 }

-- an operation of so many minutes, of which nothing is reported
abbrev pub lasting : ℕ → Operation
lasting duration = record { workstation = cpu1; duration = duration; r1 = 0; r2 = 0; not_before = 0; deadline = morning; needs = empty; mark = Unmarked; held = false; nop = false }

-- automatic, with two servers at all times but the last minute
abbrev pub always_open : Workstation
always_open = record { attribute = Automatic; intervals = from_entries ((0, interval_by 0 52595999 2 0 0) ∷ []) }

-- its priority and deadline
abbrev pub occurrence : Occurrence
occurrence = record { priority = 5; deadline = morning }

-- the first lasts half an hour, the second an hour
abbrev pub day : Contents
day = record {
  workstations = from_entries ((cpu1, always_open) ∷ []);
  resources = empty;
  occurrences = from_entries ((daily, occurrence) ∷ []);
  operations = from_entries ((first, lasting 30) ∷ (second, lasting 60) ∷ []);
  pairs = from_list ((first, second) ∷ []);
}

-- a plan that holds this is loaded, and its clock is at minute m
abbrev pub loaded_at : ℕ → Contents → Plan
loaded_at m P = record { loaded = true; clock = m; contents = P }

-- loaded, with nothing in it
abbrev pub idle : Plan
idle = loaded_at 0 nothing
