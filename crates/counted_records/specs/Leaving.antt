-- Occurrences that stay where others leave.
use Rattle.std.specs.Prelude.{Bool, List}
use Rattle.std.specs.FinMap.{contains_key, from_entries}
use Rattle.plan_basics.specs.Keys.{occurrence_cmp}
use Rattle.plan_basics.specs.declared.keys.OccKey.{OccKey}
use Rattle.plan_status.specs.plan_model.specs.declared.Occurrence.{Occurrence}

-- whether it is one of these occurrences
abbrev pub is_one_of : List (OccKey × Occurrence) → OccKey → Bool
is_one_of occurrences c = contains_key {R = occurrence_cmp} (from_entries occurrences) c
