use Rattle.std.proofs.Common.{◌∙◌, ap}
use Rattle.std.specs.FinMap.{entries}
use Rattle.plan_rows.proofs.NoRows.{contents_of_plan}
use Rattle.plan_rows.proofs.TableRows.{are_workstations}
use Rattle.plan_rows.proofs.workplaces.push_workstations.Goals as goal
use Rattle.plan_rows.specs.Sources.{plan_if_any, source_if_any}

pub returns : goal.returns
returns c = λ clock now so_far.
    let was = c.workstations_of.ensures.rows ∙ ap (λ C. entries C.workstations) (contents_of_plan clock (source_if_any c.args.before)) in
    let is = c.workstations_of-2.ensures.rows ∙ ap (λ C. entries C.workstations) (contents_of_plan now (source_if_any c.args.after)) in
    c.push_changes.ensures 1 (plan_if_any clock (source_if_any c.args.before)) (plan_if_any now (source_if_any c.args.after)) (are_workstations _ c.workstations_of.result.now was) (are_workstations _ c.workstations_of-2.result.now is) so_far
