use Rattle.std.proofs.Common.{subst, List}
use Rattle.std.specs.BTreeSet.{IsFromIterResult}
use Rattle.plan_basics.specs.Keys.{operation_cmp}
use Rattle.plan_basics.specs.declared.keys.OpKey.{OpKey}
use Rattle.plan_shows.proofs.OperationLists.{are_reached}
use Rattle.plan_shows.proofs.reached.reached_views.Goals as goal

pub returns-clause-views : goal.returns-clause-views
returns-clause-views c =
    let P = c.args.plan.now.plan.contents in
    let made = subst (λ (keys : List OpKey). IsFromIterResult operation_cmp keys c.in_ok-set.set) c.deref.ensures.value c.in_ok-set.ensures in
    rw c.in_ok-views.ensures
    (are_reached P c.clock.ensures.sound.contents.valid c.ops.result c.ops.ensures c.args.key.now c.requires c.in_ok-keys.keys.items c.in_ok-keys.ensures.reached c.in_ok-set.set made)
