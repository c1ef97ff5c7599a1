-- The columns of each show: texts stand at the left of a column, numbers at the right, of these widths.
use Rattle.std.specs.Prelude.{ℕ, zero, suc, Bool, true, false, List, [], ◌∷◌, codes, Option, Some, None}
use Rattle.plan_basics.specs.Attributes.{attribute_letter}
use Rattle.plan_basics.specs.Intervals.{OpenInterval}
use Rattle.plan_basics.specs.MomentTexts.{moment_text}
use Rattle.plan_basics.specs.declared.keys.OpKey.{OpKey}
use Rattle.plan_reasons.specs.Texts.{mode_word}
use Rattle.plan_reasons.specs.plan_core.specs.declared.views.OpView.{OpView}
use Rattle.plan_reasons.specs.plan_core.specs.plan_records.specs.Changes.{operation_of}
use Rattle.plan_reasons.specs.plan_core.specs.plan_records.specs.declared.Request.{Request}
use Rattle.plan_reasons.specs.plan_core.specs.plan_records.specs.declared.What.{What}
use Rattle.plan_reasons.specs.plan_core.specs.plan_records.specs.declared.What.TheVariants as what
use Rattle.status_rules.specs.Texts.{status_letter}
use Rattle.status_rules.specs.declared.Mark.{Mark}
use Rattle.status_rules.specs.declared.Mark.TheVariants as mark
use Rattle.report_lines.specs.Lines.{left, right}
use Rattle.report_lines.specs.Moments.{hyphens, latest_text}
use Rattle.plan_shows.specs.declared.dependencies.DependencyView.{DependencyView}
use Rattle.plan_shows.specs.declared.resources.HolderView.{HolderView}
use Rattle.plan_shows.specs.declared.resources.ResourceRow.{ResourceRow}
use Rattle.plan_shows.specs.declared.resources.ResourceRow.TheVariants as row
use Rattle.plan_shows.specs.declared.resources.ResourceAmounts.{ResourceAmounts}
use Rattle.plan_shows.specs.declared.stations.WorkstationView.{WorkstationView}
use Rattle.plan_shows.specs.declared.trackers.TrackerView.{TrackerView}

-- a not-before: none where it is minute 0, to which nothing comes too early
abbrev pub not_before_text : ℕ → List ℕ
not_before_text zero = hyphens 16
not_before_text (suc m) = moment_text (suc m)

-- whether an operator holds it
abbrev pub held_text : Bool → List ℕ
held_text true = codes "H"
held_text false = codes "-"

-- whether it is a no-operation
abbrev pub nop_text : Bool → List ℕ
nop_text true = codes "N"
nop_text false = codes "-"

-- whether a special resource is available
abbrev pub available_text : Bool → List ℕ
available_text true = codes "Y"
available_text false = codes "N"

-- by which mark an operation is started: it was named, or else it was reported
abbrev pub mark_word : Mark → List ℕ
mark_word mark.Named = codes "named"
mark_word _ = codes "started"

-- an operation that is started
abbrev pub started_columns : OpView → List (List ℕ)
started_columns v =
    left 16 v.key.occurrence.app
    ∷ left 16 (moment_text v.key.occurrence.arrival)
    ∷ right 3 v.key.number
    ∷ left 4 v.workstation
    ∷ left 7 (mark_word v.mark)
    ∷ right 4 v.duration
    ∷ left 16 (latest_text v.latest)
    ∷ []

-- an operation of an occurrence, with how many predecessors it waits for
abbrev pub operation_columns : OpView → List (List ℕ)
operation_columns v =
    right 3 v.key.number
    ∷ left 4 v.workstation
    ∷ left 1 (status_letter v.status ∷ [])
    ∷ left 1 (held_text v.held)
    ∷ left 1 (nop_text v.nop)
    ∷ right 4 v.duration
    ∷ left 16 (not_before_text v.not_before)
    ∷ left 16 (latest_text v.latest)
    ∷ right 5 v.waiting
    ∷ []

-- a dependency: its predecessor, then its successor, each with its status
abbrev pub dependency_columns : DependencyView → List (List ℕ)
dependency_columns v =
    left 16 v.predecessor.occurrence.app
    ∷ left 16 (moment_text v.predecessor.occurrence.arrival)
    ∷ right 3 v.predecessor.number
    ∷ left 1 (status_letter v.predecessor_status ∷ [])
    ∷ left 16 v.successor.occurrence.app
    ∷ left 16 (moment_text v.successor.occurrence.arrival)
    ∷ right 3 v.successor.number
    ∷ left 1 (status_letter v.successor_status ∷ [])
    ∷ []

-- an operation that a rerun reaches
abbrev pub reached_columns : OpView → List (List ℕ)
reached_columns v =
    left 16 v.key.occurrence.app
    ∷ left 16 (moment_text v.key.occurrence.arrival)
    ∷ right 3 v.key.number
    ∷ left 4 v.workstation
    ∷ left 1 (status_letter v.status ∷ [])
    ∷ []

-- ---- special resources

-- a special resource, with what those that hold it leave
abbrev pub resource_columns : ResourceAmounts → List (List ℕ)
resource_columns v =
    left 44 v.name
    ∷ left 1 (available_text v.stock.available)
    ∷ right 6 v.stock.quantity
    ∷ right 6 v.left
    ∷ []

-- one that holds it: the line begins with two blanks
abbrev pub holder_columns : HolderView → List (List ℕ)
holder_columns h =
    codes " "
    ∷ left 16 h.op.occurrence.app
    ∷ left 16 (moment_text h.op.occurrence.arrival)
    ∷ right 3 h.op.number
    ∷ left 1 (status_letter h.status ∷ [])
    ∷ left 9 (mode_word h.mode)
    ∷ right 6 h.amount
    ∷ []

-- a row of the show of special resources
abbrev pub row_columns : ResourceRow → List (List ℕ)
row_columns (row.Resource x) = resource_columns x
row_columns (row.Holder x) = holder_columns x

-- ---- workstations

-- whether it is open
abbrev pub hours_word : Bool → List ℕ
hours_word true = codes "open"
hours_word false = codes "closed"

-- a workstation: of servers, of R1 and of R2 what is given out and what is open, and how many operations are ready
abbrev pub workstation_columns : WorkstationView → List (List ℕ)
workstation_columns v =
    left 4 v.name
    ∷ left 1 (attribute_letter v.attribute ∷ [])
    ∷ left 6 (hours_word v.hours.is_open)
    ∷ left 16 (latest_text v.hours.until)
    ∷ right 2 v.given.servers
    ∷ right 2 v.hours.offered.servers
    ∷ right 2 v.given.r1
    ∷ right 2 v.hours.offered.r1
    ∷ right 2 v.given.r2
    ∷ right 2 v.hours.offered.r2
    ∷ right 5 v.ready
    ∷ []

-- an open interval: from, to, servers, R1 and R2
abbrev pub interval_columns : OpenInterval → List (List ℕ)
interval_columns x = left 16 (moment_text x.from) ∷ left 16 (moment_text x.end) ∷ right 2 x.servers ∷ right 2 x.r1 ∷ right 2 x.r2 ∷ []

-- ---- trackers

-- the verb of a report
abbrev pub verb_text : What → List ℕ
verb_text (what.Started o) = codes "started"
verb_text (what.Ended o) = codes "ended"
verb_text (what.Error o code) = codes "error"
verb_text (what.Interrupted o) = codes "interrupted"
verb_text (what.Unknown o) = codes "unknown"
verb_text _ = hyphens 11

-- what is shown where nothing can be told of a report
abbrev pub no_report : List (List ℕ)
no_report = hyphens 11 ∷ hyphens 16 ∷ hyphens 16 ∷ hyphens 3 ∷ hyphens 16 ∷ []

-- what a request reports of an operation: its verb, the operation and the moment
abbrev pub report_columns : Request → Option OpKey → List (List ℕ)
report_columns r (Some o) =
    left 11 (verb_text r.what)
    ∷ left 16 o.occurrence.app
    ∷ left 16 (moment_text o.occurrence.arrival)
    ∷ right 3 o.number
    ∷ left 16 (latest_text r.at)
    ∷ []
report_columns r None = no_report

-- the last report of a tracker, if its text is one
abbrev pub last_columns : Option Request → List (List ℕ)
last_columns (Some r) = report_columns r (operation_of r.what)
last_columns None = no_report

-- a tracker, with the last of its requests that was accepted
abbrev pub tracker_columns : TrackerView → List (List ℕ)
tracker_columns v = left 8 v.tracker ∷ right 9 v.number ∷ last_columns v.request
