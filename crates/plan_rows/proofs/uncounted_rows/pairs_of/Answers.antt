use Rattle.plan_model.specs.Contents.{pair_cmp}
use Rattle.plan_rows.proofs.NoRows.{none_ascend}
use Rattle.plan_rows.proofs.uncounted_rows.pairs_of.Goals as goal

pub returns-in-None-clause-in_order : goal.returns-in-None-clause-in_order
returns-in-None-clause-in_order c = none_ascend pair_cmp
