use Rattle.std.proofs.Common.{◌∙◌, ap}
use Rattle.std.specs.FinMap.{entries}
use Rattle.std.specs.List.{filter_map}
use Rattle.plan_rows.proofs.NoRows.{contents_of_plan}
use Rattle.plan_rows.proofs.QuantityRows.{are_quantities, quantities_ascend}
use Rattle.plan_rows.proofs.quantities.push_quantities.Goals as goal
use Rattle.plan_rows.proofs.quantities.push_quantities.Goals.{In_ok-new}
use Rattle.plan_rows.specs.Rows.{quantity_written}
use Rattle.plan_rows.specs.Sources.{plan_if_any, source_if_any}

pub push_changes-requires-clause-before : goal.push_changes-requires-clause-before
push_changes-requires-clause-before c = quantities_ascend c.resources_of.result.now c.resources_of.ensures.in_order c.deref.result.now (c.deref.ensures.value ∙ c.in_ok-old.ensures)

pub push_changes-requires-clause-after : goal.push_changes-requires-clause-after
push_changes-requires-clause-after c = quantities_ascend c.resources_of-2.result.now c.resources_of-2.ensures.in_order c.deref-2.result.now (c.deref-2.ensures.value ∙ c.in_ok-new.ensures)

pub returns : goal.returns
returns c = λ clock now so_far.
    let P = plan_if_any clock (source_if_any c.args.before) in
    let Q = plan_if_any now (source_if_any c.args.after) in
    c.push_changes.ensures 8 P Q
    (are_quantities P c.deref.result.now (c.deref.ensures.value ∙ c.in_ok-old.ensures ∙ ap (filter_map quantity_written) (c.resources_of.ensures.rows ∙ ap (λ C. entries C.resources) (contents_of_plan clock (source_if_any c.args.before)))))
    (are_quantities Q c.deref-2.result.now (c.deref-2.ensures.value ∙ c.in_ok-new.ensures ∙ ap (filter_map quantity_written) (c.resources_of-2.ensures.rows ∙ ap (λ C. entries C.resources) (contents_of_plan now (source_if_any c.args.after)))))
    so_far
