use Rattle.std.proofs.Common.{rules}
use Rattle.std.proofs.lemmas.List.Sorted.{IsPartitionPoint-from_clause}
use Rattle.plan_outlooks.proofs.OccurrencePlaces.{are_before, before_parted, is_before}
use Rattle.plan_outlooks.proofs.occurrences.count_before.Goals as goal

pub returns : goal.returns
returns c =
    let k = c.args.key.now in
    let xs = c.args.rows.now in
    are_before k xs c.partition_point.result (IsPartitionPoint-from_clause (is_before k) _ _ c.partition_point.ensures.partitioned (before_parted k xs c.requires) (λ a r q k. search rules))
