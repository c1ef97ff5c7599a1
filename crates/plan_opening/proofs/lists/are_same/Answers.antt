use Rattle.std.proofs.Common.{rules}
use Rattle.plan_opening.proofs.Same.{same_rows}
use Rattle.plan_opening.proofs.lists.are_same.Goals as goal

pub returns : goal.returns
returns c = search (rules, same_rows)
