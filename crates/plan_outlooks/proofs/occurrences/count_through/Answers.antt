use Rattle.std.proofs.Common.{rules}
use Rattle.std.proofs.lemmas.List.Sorted.{IsPartitionPoint-from_clause}
use Rattle.plan_outlooks.proofs.OccurrencePlaces.{are_through, is_through, through_parted}
use Rattle.plan_outlooks.proofs.occurrences.count_through.Goals as goal

pub returns-clause-through : goal.returns-clause-through
returns-clause-through c =
    let k = c.args.key.now in
    let xs = c.args.rows.now in
    are_through k xs c.partition_point.result (IsPartitionPoint-from_clause (is_through k) _ _ c.partition_point.ensures.partitioned (through_parted k xs c.requires) (λ a r q k. search rules))
