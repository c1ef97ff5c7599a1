-- Three occurrences on one automatic workstation, each with one operation: they compete for its two servers and for R1.
use Rattle.std.specs.Prelude.{ℕ, [], ◌∷◌, List, codes}
use Rattle.std.specs.FinMap.{from_entries, empty}
use Rattle.std.specs.FinSet as set
use Rattle.plan_basics.specs.declared.keys.OccKey.{OccKey}
use Rattle.plan_basics.specs.declared.keys.OpKey.{OpKey}
use Rattle.plan_basics.specs.Keys.{Name}
use Rattle.plan_model.specs.Contents.{Contents, Operation}
use Rattle.plan_model.specs.declared.Occurrence.{Occurrence}
use Rattle.worked_examples.specs.Day.{cpu1, evening, lasting, morning}
use Rattle.worked_examples.specs.Night.{cpu1_station}

-- what differs among the three: priority, deadline, duration, and the need of R1
pub record Terms : Type 0 where
  pub priority : ℕ
  pub deadline : ℕ
  pub duration : ℕ
  pub r1 : ℕ

-- these in order
abbrev pub terms : ℕ → ℕ → ℕ → ℕ → Terms
terms priority deadline duration r1 = record { priority = priority; deadline = deadline; duration = duration; r1 = r1 }

-- an application's occurrence of 22:00
abbrev pub occurrence_of : Name → OccKey
occurrence_of app = record { app = app; arrival = evening }

-- its one operation
abbrev pub operation_of : Name → OpKey
operation_of app = record { occurrence = occurrence_of app; number = 10 }

-- AAA's operation
abbrev pub aaa : OpKey
aaa = operation_of (codes "AAA")

-- BBB's operation
abbrev pub bbb : OpKey
bbb = operation_of (codes "BBB")

-- CCC's operation
abbrev pub ccc : OpKey
ccc = operation_of (codes "CCC")

-- an occurrence on these terms
abbrev pub occurrence_by : Terms → Occurrence
occurrence_by t = record { priority = t.priority; deadline = t.deadline }

-- an operation on these terms, of which nothing is reported
abbrev pub operation_by : Terms → Operation
operation_by t = record (lasting t.duration) { r1 = t.r1; deadline = t.deadline }

-- the three operations
abbrev pub trio_operations : Terms → Terms → Terms → List (OpKey × Operation)
trio_operations a b c = (aaa, operation_by a) ∷ (bbb, operation_by b) ∷ (ccc, operation_by c) ∷ []

-- the three occurrences
abbrev pub trio_occurrences : Terms → Terms → Terms → List (OccKey × Occurrence)
trio_occurrences a b c = (aaa.occurrence, occurrence_by a) ∷ (bbb.occurrence, occurrence_by b) ∷ (ccc.occurrence, occurrence_by c) ∷ []

-- AAA, BBB and CCC on these terms
abbrev pub trio : Terms → Terms → Terms → Contents
trio a b c = record {
  workstations = from_entries ((cpu1, cpu1_station) ∷ []);
  resources = empty;
  occurrences = from_entries (trio_occurrences a b c);
  operations = from_entries (trio_operations a b c);
  pairs = set.empty;
}

-- 2024-03-02 at 03:00
abbrev pub three : ℕ
three = 27437940

-- 2024-03-02 at 03:30
abbrev pub half_past_three : ℕ
half_past_three = 27437970

-- 2024-03-02 at 04:00
abbrev pub four : ℕ
four = 27438000

-- 2024-03-02 at 04:10
abbrev pub ten_past_four : ℕ
ten_past_four = 27438010

-- CCC has the highest priority, and BBB the earlier latest start of the others
abbrev pub by_latest_start : Contents
by_latest_start = trio (terms 5 four 30 0) (terms 5 half_past_three 30 0) (terms 9 morning 30 0)

-- AAA and BBB have to start at 03:30 both, and AAA is shorter
abbrev pub by_duration : Contents
by_duration = trio (terms 5 four 30 0) (terms 5 ten_past_four 40 0) (terms 9 morning 30 0)

-- AAA and BBB have to start at 03:30 both, and BBB has the higher priority
abbrev pub by_priority : Contents
by_priority = trio (terms 4 four 30 0) (terms 6 four 30 0) (terms 9 morning 30 0)

-- AAA and BBB differ in the key alone
abbrev pub by_key : Contents
by_key = trio (terms 5 four 30 0) (terms 5 four 30 0) (terms 9 morning 30 0)

-- BBB needs all of R1, of which AAA takes some
abbrev pub by_fixed_resource : Contents
by_fixed_resource = trio (terms 5 three 30 1) (terms 5 four 30 3) (terms 5 morning 30 1)
