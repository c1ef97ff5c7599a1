-- What records say that never can be carried out, or never in time. A plan may say it all the same.
use Rattle.std.specs.Prelude.{◌≡◌, ◌↔◌, ◌⊎◌, ℕ, ◌+◌, ◌<◌, ◌≤◌, true, List, length, Contains, Some, MatchOption}
use Rattle.plan_basics.specs.declared.Attr.{Attr}
use Rattle.plan_basics.specs.Intervals.{OpenInterval}
use Rattle.plan_basics.specs.Keys.{Name}
use Rattle.plan_items.specs.declared.Item.TheVariants as item
use Rattle.plan_items.specs.declared.OperationItem.{OperationItem}
use Rattle.plan_items.specs.Items.{Fields}
use Rattle.plan_model.specs.Holdings.{takes}
use Rattle.plan_drafts.specs.declared.RowKey.TheVariants as key
use Rattle.record_faults.specs.Sayings.{Sayings, AreSayings, SaysAt, given, IsFirst, IsIndex}
use Rattle.record_faults.specs.Groups.{grouped, AreLast, AreEarlier}
use Rattle.record_faults.specs.declared.warnings.Warning.{Warning}
use Rattle.record_faults.specs.declared.warnings.Warning.TheVariants as warning
use Rattle.record_faults.specs.declared.warnings.RecordWarning.{RecordWarning}
use Rattle.record_faults.specs.declared.warnings.Openings.{Openings}

-- starts are known on workstations of this attribute: there operations take servers, R1 and R2, and start in open intervals alone
abbrev pub StartsAreKnown : Attr → Type 0
StartsAreKnown a = takes (Some a) ≡ true

-- starts are known on the workstation, by the attribute that the first record of it says
abbrev pub StartsAreKnownOn : Sayings → Name → Type 0
StartsAreKnownOn said w = (i : ℕ) × (a : Attr) × IsFirst (given said) (key.Workstation w) i × SaysAt said i (item.Workstation w a) × StartsAreKnown a

-- while the interval is open the operation may run, if nothing else does: there is a server, and as much of R1 and R2 as it needs
abbrev pub Holds : OperationItem → OpenInterval → Type 0
Holds o x = (1 ≤ x.servers) × (o.r1 ≤ x.r1) × (o.r2 ≤ x.r2)

-- some record says an open interval of the workstation
abbrev pub Opens : Sayings → Name → Type 0
Opens said w = (i : ℕ) × (x : OpenInterval) × SaysAt said i (item.Interval w x)

-- some record says an interval of the operation's workstation in which it may run
abbrev pub IsHeld : Sayings → OperationItem → Type 0
IsHeld said o = (i : ℕ) × (x : OpenInterval) × SaysAt said i (item.Interval o.workstation x) × Holds o x

-- starts are known on the workstation of the place, and it has no open interval
abbrev pub NeverOpens : Sayings → ℕ → Type 0
NeverOpens said place = (w : Name) × (a : Attr) × SaysAt said place (item.Workstation w a) × StartsAreKnown a × ¬ Opens said w

-- starts are known on the operation's workstation, it opens, and in none of its intervals the operation may run
abbrev pub IsBeyond : Sayings → OperationItem → Type 0
IsBeyond said o = StartsAreKnownOn said o.workstation × Opens said o.workstation × ¬ IsHeld said o

-- the place says such an operation
abbrev pub IsBeyondIntervals : Sayings → ℕ → Type 0
IsBeyondIntervals said place = (o : OperationItem) × SaysAt said place (item.Operation o) × IsBeyond said o

-- the deadline of the operation's occurrence, as the first record says it
abbrev pub IsDeadlineOfOccurrence : Sayings → OperationItem → ℕ → Type 0
IsDeadlineOfOccurrence said o d = (i : ℕ) × (priority : ℕ) × IsFirst (given said) (key.Occurrence o.key.occurrence) i × SaysAt said i (item.Occurrence o.key.occurrence priority d)

-- the deadline of an operation: its own; or, where it has none, that of its occurrence
abbrev pub IsDeadlineOf : Sayings → OperationItem → ℕ → Type 0
IsDeadlineOf said o d = MatchOption o.deadline (IsDeadlineOfOccurrence said o d) (λ own. own ≡ d)

-- the operation can't be in time: from its not-before, or from its occurrence's input arrival, its duration goes past its deadline
abbrev pub IsLate : Sayings → OperationItem → Type 0
IsLate said o = (d : ℕ) × IsDeadlineOf said o d × ((d < o.not_before + o.duration) ⊎ (d < o.key.occurrence.arrival + o.duration))

-- the place says such an operation
abbrev pub IsTooLate : Sayings → ℕ → Type 0
IsTooLate said place = (o : OperationItem) × SaysAt said place (item.Operation o) × IsLate said o

-- what the record at the place is warned of
abbrev pub IsWarningAt : Sayings → ℕ → Warning → Type 0
IsWarningAt said place warning.NeverOpens = NeverOpens said place
IsWarningAt said place warning.BeyondIntervals = IsBeyondIntervals said place
IsWarningAt said place warning.TooLate = IsTooLate said place

-- what a record is warned of
abbrev pub IsWarning : List Fields → ℕ → Warning → Type 0
IsWarning records place w = (said : Sayings) × AreSayings records said × IsWarningAt said place w

-- ---- on the way there
-- the warnings of the places below n, and no others
abbrev pub AreWarningsBelow : Sayings → ℕ → List RecordWarning → Type 0
AreWarningsBelow said n found = (w : RecordWarning) → Contains found w ↔ ((w.place < n) × IsWarningAt said w.place w.warning)

-- the first places of the keys, and the links of the groups from the last place on
pub record AreOpenings (o : Openings) : Type 0 where
  pub index : IsIndex (given o.said.items) o.index
  pub latest : AreLast (grouped o.said.items) (length o.said.items) o.latest
  pub size : length o.earlier.items ≡ length o.said.items
  pub earlier : AreEarlier (grouped o.said.items) o.earlier.items
