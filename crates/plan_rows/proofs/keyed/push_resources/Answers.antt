use Rattle.std.proofs.Common.{◌∙◌, ap}
use Rattle.std.specs.FinMap.{entries}
use Rattle.plan_rows.proofs.NoRows.{contents_of_plan}
use Rattle.plan_rows.proofs.keyed.push_resources.Goals as goal
use Rattle.plan_rows.specs.Sources.{plan_if_any, source_if_any}

pub returns : goal.returns
returns c = λ clock now so_far.
    c.push_noted_resources.ensures (plan_if_any clock (source_if_any c.args.before)) (plan_if_any now (source_if_any c.args.after))
    (c.resources_of.ensures.rows ∙ ap (λ C. entries C.resources) (contents_of_plan clock (source_if_any c.args.before)))
    (c.resources_of-2.ensures.rows ∙ ap (λ C. entries C.resources) (contents_of_plan now (source_if_any c.args.after))) so_far
