use Rattle.std.proofs.Common.{rules}
use Rattle.std.proofs.lemmas.List.Sorted.{answers_always}
use Rattle.plan_outlooks.specs.Operations.{operation_place}
use Rattle.plan_outlooks.proofs.OperationsListed.{operations_placed}
use Rattle.plan_outlooks.proofs.operations.operation_outlooks.Goals as goal

pub returns : goal.returns
returns c = λ F lent.
    let sorted = c.in_ok-sort_by_key.ensures.sorted operation_place (answers_always _ _ _ (λ f a r q k. search rules)) in
    operations_placed F c.in_ok-rows.rows.items c.sort_by_key.new.self.items c.in_ok-sort_by_key.ensures.permutation (c.in_ok-rows.ensures F lent) sorted
