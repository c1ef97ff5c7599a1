-- Rows in order, and what a plan or an addition holds of them.
use Rattle.std.specs.Prelude.{List}
use Rattle.std.specs.List.Sorted.{IsStrictlySortedBy}
use Rattle.std.specs.Map.{keys_of}
use Rattle.std.specs.FinMap as map
use Rattle.std.specs.FinSet as set
use Rattle.plan_basics.specs.declared.keys.OccKey.{OccKey}
use Rattle.plan_basics.specs.declared.keys.OpKey.{OpKey}
use Rattle.plan_basics.specs.Keys.{Name, name_cmp, occurrence_cmp, operation_cmp}
use Rattle.plan_model.specs.workstations.specs.Timetables.{NamedWorkstation}
use Rattle.plan_model.specs.declared.Occurrence.{Occurrence}
use Rattle.plan_model.specs.declared.Stock.{Stock}
use Rattle.plan_model.specs.Contents.{Contents, Operation, AddedParts, pair_cmp}
use Rattle.plan_drafts.specs.declared.contents.PlanContents.TheInside.{Inside}
use Rattle.plan_drafts.specs.declared.contents.ExtensionParts.{ExtensionParts}
use Rattle.plan_drafts.specs.Drafts.{IsExtension}

-- rows of each kind
pub record Rows : Type 0 where
  pub workstations : List NamedWorkstation
  pub resources : List (Name × Stock)
  pub occurrences : List (OccKey × Occurrence)
  pub operations : List (OpKey × Operation)
  pub pairs : List (OpKey × OpKey)

-- what a plan holds that has these rows
abbrev pub held_by : Rows → Contents
held_by rows = record {
  workstations = map.from_entries rows.workstations;
  resources = map.from_entries rows.resources;
  occurrences = map.from_entries rows.occurrences;
  operations = map.from_entries rows.operations;
  pairs = set.from_list rows.pairs;
}

-- workstations and special resources by name, occurrences and operations by key, pairs by predecessor and then successor, and each of them once
pub record AreRowsInOrder (rows : Rows) : Type 0 where
  pub workstations : IsStrictlySortedBy name_cmp (keys_of rows.workstations)
  pub resources : IsStrictlySortedBy name_cmp (keys_of rows.resources)
  pub occurrences : IsStrictlySortedBy occurrence_cmp (keys_of rows.occurrences)
  pub operations : IsStrictlySortedBy operation_cmp (keys_of rows.operations)
  pub pairs : IsStrictlySortedBy pair_cmp rows.pairs

-- the rows that are kept
abbrev pub rows_in : Inside → Rows
rows_in c = record {
  workstations = c.workstations.items;
  resources = c.resources.items;
  occurrences = c.occurrences.items;
  operations = c.operations.items;
  pairs = c.pairs.items;
}

-- what a plan holds that keeps these
abbrev pub held_in : Inside → Contents
held_in c = held_by (rows_in c)

-- those that are kept are in order
abbrev pub AreInOrder : Inside → Type 0
AreInOrder c = AreRowsInOrder (rows_in c)

-- what is added by these parts
abbrev pub added_of : ExtensionParts → AddedParts
added_of n = record { occurrences = map.from_entries n.occurrences.items; operations = map.from_entries n.operations.items; pairs = set.from_list n.pairs.items }

-- occurrences and operations by key, pairs by predecessor and then successor, each of them once, and they are an extension
pub record AreExtensionParts (n : ExtensionParts) : Type 0 where
  pub occurrences : IsStrictlySortedBy occurrence_cmp (keys_of n.occurrences.items)
  pub operations : IsStrictlySortedBy operation_cmp (keys_of n.operations.items)
  pub pairs : IsStrictlySortedBy pair_cmp n.pairs.items
  pub extension : IsExtension (added_of n)
