use Rattle.std.proofs.Common.{sym, subst}
use Rattle.plan_checks.specs.derived_figures.specs.Figures.{AreFigures}
use Rattle.small_requests.proofs.ColumnParts.{are_columns, are_figures, are_allocations, columns_alike}
use Rattle.small_requests.proofs.steps.small_step.Goals as goal

pub tried_step-same-requires-clause-figures : goal.tried_step-same-requires-clause-figures
tried_step-same-requires-clause-figures c = subst (AreFigures c.args.records.contents) (sym c.parts_of-columns.ensures) c.requires.figures

pub returns-clause-figures : goal.returns-clause-figures
returns-clause-figures c =
    let P = c.args.records.contents in
    let l = c.parts_of-columns.result.0 in
    let r = c.parts_of-columns.result.1 in
    let s = c.parts_of-columns.result.2 in
    let new = c.tried_step-same.new.columns in
    let are = subst (AreFigures P) (sym c.parts_of-columns.ensures) c.requires.figures in
    subst (AreFigures P) (sym c.figures_with.ensures)
    (are_figures P new c.tried_step-same.new.ready s (columns_alike P new l c.tried_step-same.ensures.unchanged (are_columns P l r s are)) c.tried_step-same.ensures.ready (are_allocations P l r s are))
