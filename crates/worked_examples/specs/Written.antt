-- A plan that is written out, a line for each operation: what was planned of it, and what is reported.
use Rattle.std.specs.Prelude.{ℕ, Bool, false, cond, [], ◌∷◌, List, map, Option}
use Rattle.std.specs.FinMap.{empty, find, from_entries}
use Rattle.std.specs.FinSet.{from_list}
use Rattle.plan_basics.specs.declared.Attr.{Attr}
use Rattle.plan_basics.specs.declared.keys.OccKey.{OccKey}
use Rattle.plan_basics.specs.declared.keys.OpKey.{OpKey}
use Rattle.plan_basics.specs.Intervals.{OpenInterval}
use Rattle.plan_basics.specs.Keys.{Name, operation_cmp}
use Rattle.workstations.specs.Workstations.{Workstation}
use Rattle.status_rules.specs.declared.Mark.{Mark}
use Rattle.plan_model.specs.Contents.{Contents, Operation}
use Rattle.plan_model.specs.declared.Occurrence.{Occurrence}
use Rattle.worked_examples.specs.Day.{morning}
use Rattle.worked_examples.specs.Night.{needs_custfile, night_resources, workstation_by}

-- what stays as it was planned: how the workstations report, when they all are open, the occurrences, and the pairs
pub record Sheet : Type 0 where
  pub attributes : List (Name × Attr)
  pub interval : OpenInterval
  pub occurrences : List (OccKey × Occurrence)
  pub pairs : List (OpKey × OpKey)

-- what was planned of an operation: the last is whether it needs CUSTFILE alone
pub record Planned : Type 0 where
  pub workstation : Name
  pub duration : ℕ
  pub not_before : ℕ
  pub file : Bool

-- an operation: what was planned of it, and what is reported
pub record Line : Type 0 where
  pub planned : Planned
  pub mark : Mark

-- the operations by their keys
abbrev pub Lines : Type 0
Lines = List (OpKey × Line)

-- the operation of a line: with the deadline 05:00, without R1 and R2, neither held nor NOP
abbrev pub operation_of : Line → Operation
operation_of l = record {
  workstation = l.planned.workstation;
  duration = l.planned.duration;
  r1 = 0;
  r2 = 0;
  not_before = l.planned.not_before;
  deadline = morning;
  needs = cond l.planned.file needs_custfile empty;
  mark = l.mark;
  held = false;
  nop = false;
}

-- a workstation of this attribute, with this one interval
abbrev pub station_by : OpenInterval → Attr → Workstation
station_by interval attribute = workstation_by attribute ((interval.from, interval) ∷ [])

-- all of it; CUSTFILE is the only special resource
abbrev pub plan_of : Sheet → Lines → Contents
plan_of S lines = record {
  workstations = from_entries (map (λ e. (e.0, station_by S.interval e.1)) S.attributes);
  resources = from_entries night_resources;
  occurrences = from_entries S.occurrences;
  operations = from_entries (map (λ e. (e.0, operation_of e.1)) lines);
  pairs = from_list S.pairs;
}

-- the line of an operation
abbrev pub line_at : Lines → OpKey → Option Line
line_at lines o = find operation_cmp o lines

-- the operations as they were planned, each with its mark, in their order
abbrev pub told : List (OpKey × Planned) → List Mark → Lines
told [] marks = []
told (p ∷ ps) [] = []
told (p ∷ ps) (m ∷ marks) = (p.0, record { planned = p.1; mark = m }) ∷ told ps marks

-- the minute of an operation, if it is among these
abbrev pub time_of : List (OpKey × ℕ) → OpKey → Option ℕ
time_of times o = find operation_cmp o times
