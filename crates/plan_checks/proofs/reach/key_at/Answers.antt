use Rattle.std.specs.FinMap.{entries}
use Rattle.derived_figures.specs.plan_status.proofs.RowKeys.{key_of_row}
use Rattle.plan_checks.proofs.reach.key_at.Goals as goal

pub returns : goal.returns
returns c =
    let at = c.operation_key.ensures.key in
    key_of_row (entries c.args.uncounted.now.contents.now.operations) c.args.place c.operation_key.result.now at.0 at.1
