-- The columns of each report: texts stand at the left of a column, numbers at the right, of these widths.
use Rattle.std.specs.Prelude.{ℕ, List, [], ◌∷◌}
use Rattle.plan_basics.specs.MomentTexts.{moment_text}
use Rattle.status_rules.specs.Texts.{occurrence_letter, status_letter}
use Rattle.desk_tables.specs.plan_core.specs.declared.views.OccView.{OccView}
use Rattle.desk_tables.specs.plan_core.specs.declared.views.OpView.{OpView}
use Rattle.desk_tables.specs.declared.errors.ErrorRow.{ErrorRow}
use Rattle.plan_shows.specs.Columns.{held_text}
use Rattle.report_lines.specs.Lines.{left, right}
use Rattle.report_lines.specs.Moments.{latest_text}

-- an operation that is ready
abbrev pub ready_columns : OpView → List (List ℕ)
ready_columns v =
    left 16 v.key.occurrence.app
    ∷ left 16 (moment_text v.key.occurrence.arrival)
    ∷ right 3 v.key.number
    ∷ left 1 (status_letter v.status ∷ [])
    ∷ left 1 (held_text v.held)
    ∷ right 1 v.priority
    ∷ right 4 v.duration
    ∷ left 16 (latest_text v.latest)
    ∷ []

-- an occurrence
abbrev pub occurrence_columns : OccView → List (List ℕ)
occurrence_columns v =
    left 16 v.key.app
    ∷ left 16 (moment_text v.key.arrival)
    ∷ right 1 v.priority
    ∷ left 1 (occurrence_letter v.status ∷ [])
    ∷ left 16 (moment_text v.deadline)
    ∷ right 5 v.operations
    ∷ right 5 v.complete
    ∷ []

-- an operation in error
abbrev pub error_columns : ErrorRow → List (List ℕ)
error_columns r =
    left 16 r.op.occurrence.app
    ∷ left 16 (moment_text r.op.occurrence.arrival)
    ∷ right 3 r.op.number
    ∷ left 4 r.ws
    ∷ left 4 r.code
    ∷ []

-- an operation that is late
abbrev pub late_columns : OpView → List (List ℕ)
late_columns v =
    left 16 v.key.occurrence.app
    ∷ left 16 (moment_text v.key.occurrence.arrival)
    ∷ right 3 v.key.number
    ∷ left 4 v.workstation
    ∷ left 1 (status_letter v.status ∷ [])
    ∷ left 16 (latest_text v.latest)
    ∷ []
