-- A report that is stopped: the small plan is loaded at 22:00, and at 22:40 CPUTRK reports, as its first, that DAILY's first ended.
use Rattle.std.specs.Prelude.{ℕ, [], ◌∷◌, List, Some, None, pos, codes}
use Rattle.std.specs.FinMap.{from_entries}
use Rattle.status_rules.specs.declared.Mark.TheVariants as mark
use Rattle.plan_model.specs.Contents.{Contents}
use Rattle.plan_model.specs.Ready.{named}
use Rattle.plan_records.specs.Answer.{accepted}
use Rattle.plan_records.specs.Changes.{marked}
use Rattle.plan_records.specs.Run.{Call, State, numbered, plain, usable}
use Rattle.plan_records.specs.Schedules.{Event, World, ended, found, opening, stopped}
use Rattle.plan_records.specs.Step.{Numbered}
use Rattle.plan_records.specs.declared.What.TheVariants as what
use Rattle.plan_laws.specs.Acts.{Act}
use Rattle.worked_examples.specs.Day.{day, evening, first, loaded_at, second}
use Rattle.worked_examples.specs.Night.{end_of_second}
use Rattle.worked_examples.specs.Tracker.{cputrk, no_receipts, told_by}

-- the load, by an operator
abbrev pub load_of_the_day : Call
load_of_the_day = plain (record { at = pos evening; what = what.Load (Some day) })

-- the small plan once it is loaded: its first is named
abbrev pub first_started : Contents
first_started = named (first ∷ []) day

-- and then its first ended, before anything else is named
abbrev pub first_ended : Contents
first_ended = marked first mark.Done first_started

-- the text of the report
abbrev pub report_text : List ℕ
report_text = codes "ended DAILY/2024-03-01T22:00/010"

-- the report
abbrev pub report : Numbered
report = told_by 1 report_text (what.Ended first)

-- the plan before the report acts, and no receipt
abbrev pub before_report : State
before_report = record { plan = loaded_at evening first_started; receipts = no_receipts }

-- the plan once it has acted, with its second named, and its receipt
abbrev pub after_report : State
after_report = record {
  plan = loaded_at end_of_second (named (second ∷ []) first_ended);
  receipts = from_entries ((cputrk, record { number = 1; text = report_text; named = second ∷ [] }) ∷ []);
}

-- the plan is loaded; the report is stopped, and its desk is gone; an opening finds this; and the report, which heard no answer, is made again
abbrev pub report_stopped : State → List Event
report_stopped s =
    ended load_of_the_day (accepted (first ∷ []))
    ∷ stopped (numbered report) None
    ∷ opening (found s)
    ∷ ended (numbered report) (accepted (second ∷ []))
    ∷ []

-- what is stored at the end, and the desk
abbrev pub report_made : World
report_made = record { version = 2; stored = after_report; desk = Some usable }

-- that the report acted, and named the second
abbrev pub report_acts : Act
report_acts = record { request = report; named = second ∷ [] }
