-- A plan with work that is long overdue: OLD, of 1972-01-01 at 00:00, with a deadline half an hour later.
use Rattle.std.specs.Prelude.{ℕ, [], ◌∷◌, List, codes}
use Rattle.std.specs.FinMap.{from_entries, empty}
use Rattle.std.specs.FinSet.{from_list}
use Rattle.plan_basics.specs.declared.keys.OccKey.{OccKey}
use Rattle.plan_basics.specs.declared.keys.OpKey.{OpKey}
use Rattle.plan_model.specs.Contents.{Contents, Operation}
use Rattle.worked_examples.specs.Day.{cpu1}
use Rattle.worked_examples.specs.Night.{cpu1_station}
use Rattle.worked_examples.specs.Trio.{aaa, four, occurrence_by, operation_by, terms}

-- OLD, of the first minute
abbrev pub old : OccKey
old = record { app = codes "OLD"; arrival = 0 }

-- OLD's operation of a number
abbrev pub old_at : ℕ → OpKey
old_at number = record { occurrence = old; number = number }

-- AAA of the evening, and OLD's two operations of twenty minutes
abbrev pub overdue_operations : List (OpKey × Operation)
overdue_operations = (aaa, operation_by (terms 5 four 30 0)) ∷ (old_at 10, operation_by (terms 5 30 20 0)) ∷ (old_at 20, operation_by (terms 5 30 20 0)) ∷ []

-- OLD's first before its second
abbrev pub overdue_pairs : List (OpKey × OpKey)
overdue_pairs = (old_at 10, old_at 20) ∷ []

-- both
abbrev pub overdue : Contents
overdue = record {
  workstations = from_entries ((cpu1, cpu1_station) ∷ []);
  resources = empty;
  occurrences = from_entries ((aaa.occurrence, occurrence_by (terms 5 four 30 0)) ∷ (old, occurrence_by (terms 5 30 20 0)) ∷ []);
  operations = from_entries overdue_operations;
  pairs = from_list overdue_pairs;
}
