use Rattle.std.proofs.Common.{◌≡◌, ◌≤◌, true, false, rules, sym, subst, List, length}
use Rattle.std.proofs.lemmas.List.{take_rest}
use Rattle.std.proofs.lemmas.List.Sorted.{IsPartitionPoint-from_clause}
use Rattle.std.specs.List.Sorted.{IsPartitionedBy, IsPartitionPoint}
use Rattle.plan_basics.specs.declared.keys.OpKey.{OpKey}
use Rattle.plan_items.specs.special_resources.specs.declared.Need.{Need}
use Rattle.plan_denotation.proofs.OwnNeeds.{is_before, is_up_to, before_parted, up_to_parted, part_is}
use Rattle.plan_denotation.proofs.needs.needs_by.Goals as goal

pub returns : goal.returns
returns c =
    let o = c.args.key.now in
    let xs = c.args.needs.now in
    let from = c.partition_point-from.result in
    let begin = IsPartitionPoint-from_clause (is_before o) _ _ c.partition_point-from.ensures.partitioned (before_parted o xs c.requires) (λ a r q k. search rules) in
    let rest = take_rest xs from in
    let end = IsPartitionPoint-from_clause (is_up_to o) _ _ c.partition_point-number.ensures.partitioned (subst (λ (ys : List (OpKey × Need)). IsPartitionedBy (is_up_to o) ys) (sym rest) (up_to_parted o xs c.requires from)) (λ a r q k. search rules) in
    rw rest (part_is o xs from c.partition_point-from.ensures.bound begin c.partition_point-number.result (subst (λ (ys : List (OpKey × Need)). c.partition_point-number.result ≤ length ys) rest c.partition_point-number.ensures.bound) (subst (λ (ys : List (OpKey × Need)). IsPartitionPoint (λ said. is_up_to o said ≡ true) (λ said. is_up_to o said ≡ false) ys c.partition_point-number.result) rest end))
