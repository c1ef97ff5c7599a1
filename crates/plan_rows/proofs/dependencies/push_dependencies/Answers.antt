use Rattle.std.proofs.Common.{◌∙◌, ap}
use Rattle.plan_rows.proofs.NoRows.{contents_of_plan}
use Rattle.plan_rows.proofs.TableRows.{are_dependencies}
use Rattle.plan_rows.proofs.dependencies.push_dependencies.Goals as goal
use Rattle.plan_rows.specs.Sources.{plan_if_any, source_if_any}

pub returns : goal.returns
returns c = λ clock now so_far.
    let was = c.pairs_of.ensures.pairs ∙ ap (λ C. C.pairs) (contents_of_plan clock (source_if_any c.args.before)) in
    let is = c.pairs_of-2.ensures.pairs ∙ ap (λ C. C.pairs) (contents_of_plan now (source_if_any c.args.after)) in
    c.push_changes.ensures 6 (plan_if_any clock (source_if_any c.args.before)) (plan_if_any now (source_if_any c.args.after)) (are_dependencies _ c.pairs_of.result.now was) (are_dependencies _ c.pairs_of-2.result.now is) so_far
