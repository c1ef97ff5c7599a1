use Rattle.std.proofs.Common.{◌∙◌, ◌++◌, ap}
use Rattle.std.specs.List.{filter_map}
use Rattle.plan_rows.proofs.quantities.quantities_of.Goals as goal
use Rattle.plan_rows.specs.Rows.{quantity_written}

pub returns : goal.returns
returns c =
    c.in_ok-push_written.ensures quantity_written (λ x r has is. is) ∙ ap (λ qs. qs ++ filter_map quantity_written c.args.resources.now) c.new-quantities.ensures.items
