-- The whole text of each report: its first line, its rows and its end.
use Rattle.std.specs.Prelude.{ℕ, List, ◌∷◌, map, codes}
use Rattle.plan_basics.specs.Keys.{Name}
use Rattle.desk_tables.specs.plan_core.specs.declared.views.OccView.{OccView}
use Rattle.desk_tables.specs.plan_core.specs.declared.views.OpView.{OpView}
use Rattle.desk_tables.specs.declared.errors.ErrorRow.{ErrorRow}
use Rattle.plan_reports.specs.Columns.{error_columns, late_columns, occurrence_columns, ready_columns}
use Rattle.report_lines.specs.Lines.{report}
use Rattle.plan_shows.specs.Shows.{at_moment}

-- these are ready on this workstation
abbrev pub ready_text : Name → ℕ → List OpView → List ℕ
ready_text workstation clock views = report (codes "READY" ∷ workstation ∷ at_moment clock) (map ready_columns views)

-- these are the occurrences
abbrev pub occurrences_text : ℕ → List OccView → List ℕ
occurrences_text clock views = report (codes "OCCURRENCES" ∷ at_moment clock) (map occurrence_columns views)

-- these are in error
abbrev pub errors_text : ℕ → List ErrorRow → List ℕ
errors_text clock rows = report (codes "ERRORS" ∷ at_moment clock) (map error_columns rows)

-- these are late
abbrev pub late_text : ℕ → List OpView → List ℕ
late_text clock views = report (codes "LATE" ∷ at_moment clock) (map late_columns views)
