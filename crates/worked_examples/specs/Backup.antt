-- The small plan with BACKUP, which is added at 22:00: one operation behind DAILY's second; and what is left of it once DAILY is over.
use Rattle.std.specs.Prelude.{[], ◌∷◌, List, codes}
use Rattle.std.specs.FinMap.{from_entries, empty}
use Rattle.std.specs.FinSet.{from_list}
use Rattle.plan_basics.specs.declared.keys.OccKey.{OccKey}
use Rattle.plan_basics.specs.declared.keys.OpKey.{OpKey}
use Rattle.status_rules.specs.declared.Mark.TheVariants as mark
use Rattle.plan_model.specs.Contents.{Contents, Operation, AddedParts}
use Rattle.plan_model.specs.declared.Occurrence.{Occurrence}
use Rattle.plan_records.specs.Changes.{marked}
use Rattle.worked_examples.specs.Billing.{eleven}
use Rattle.worked_examples.specs.Day.{daily, day, first, lasting, occurrence, second}

-- BACKUP, of 23:00
abbrev pub backup : OccKey
backup = record { app = codes "BACKUP"; arrival = eleven }

-- its one operation
abbrev pub backup_key : OpKey
backup_key = record { occurrence = backup; number = 10 }

-- what is added: BACKUP, with an operation of half an hour, and DAILY's second before it
abbrev pub backup_addition : AddedParts
backup_addition = record { occurrences = from_entries ((backup, occurrence) ∷ []); operations = from_entries ((backup_key, lasting 30) ∷ []); pairs = from_list ((second, backup_key) ∷ []) }

-- both occurrences
abbrev pub two_occurrences : List (OccKey × Occurrence)
two_occurrences = (backup, occurrence) ∷ (daily, occurrence) ∷ []

-- the three operations
abbrev pub three_operations : List (OpKey × Operation)
three_operations = (backup_key, lasting 30) ∷ (first, lasting 30) ∷ (second, lasting 60) ∷ []

-- the first before the second, and that before BACKUP's
abbrev pub two_pairs : List (OpKey × OpKey)
two_pairs = (first, second) ∷ (second, backup_key) ∷ []

-- the small plan with it
abbrev pub with_backup : Contents
with_backup = record day { occurrences = from_entries two_occurrences; operations = from_entries three_operations; pairs = from_list two_pairs }

-- DAILY's operations are done, one after the other
abbrev pub day_over : Contents
day_over = marked second mark.Done (marked first mark.Done with_backup)

-- an extension of nothing
abbrev pub nothing_added : AddedParts
nothing_added = record { occurrences = empty; operations = empty; pairs = from_list [] }

-- BACKUP alone, with its operation and no pair; workstations and resources are as they were
abbrev pub backup_alone : Contents
backup_alone = record with_backup { occurrences = from_entries ((backup, occurrence) ∷ []); operations = from_entries ((backup_key, lasting 30) ∷ []); pairs = from_list [] }
