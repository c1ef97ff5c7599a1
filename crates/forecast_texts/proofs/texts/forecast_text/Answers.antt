use Rattle.std.proofs.Common.{◌∙◌, ap, ap₂, ◌∷◌, ◌++◌, List, ℕ, map}
use Rattle.std.specs.Prelude.{codes}
use Rattle.plan_outlooks.specs.declared.rows.OccurrenceOutlook.{OccurrenceOutlook}
use Rattle.plan_outlooks.specs.declared.rows.OperationOutlook.{OperationOutlook}
use Rattle.report_lines.specs.Lines.{report}
use Rattle.forecast_texts.specs.Columns.{occurrence_columns, operation_columns}
use Rattle.forecast_texts.specs.Texts.{hands_text, named_text, over_text, paths_text, span, standstills_text}
use Rattle.forecast_texts.proofs.texts.forecast_text.Goals as goal

pub returns : goal.returns
returns c =
    let x = c.args.told.now in
    let first = c.in_ok-text.ensures ∙ ap (λ (rows : List OccurrenceOutlook). report (codes "FORECAST OF OCCURRENCES" ∷ span x) (map occurrence_columns rows)) c.deref.ensures.value in
    let second = c.in_ok-operations.ensures ∙ ap (λ (rows : List OperationOutlook). report (codes "FORECAST OF OPERATIONS" ∷ span x) (map operation_columns rows)) c.deref-2.ensures.value in
    let both = c.in_ok-extend_from_slice.ensures.items ∙ ap₂ (λ (a b : List ℕ). a ++ b) first (c.deref-3.ensures.value ∙ second) in
    let rest = c.in_ok-put_rest.ensures ∙ ap (λ (t : List ℕ). t ++ paths_text x ++ standstills_text x) both in
    c.in_ok-put_watched.ensures ∙ ap (λ (t : List ℕ). t ++ named_text x ++ over_text x ++ hands_text x) rest
