use Rattle.std.specs.FinMap.{keys}
use Rattle.plan_checks.proofs.Grown.{keys_on}
use Rattle.plan_checks.proofs.growth.old_keys.Goals as goal

pub loop-place-preserved : goal.loop-place-preserved
loop-place-preserved c =
    rw c.in_ok-push.ensures.items
    (keys_on (keys c.args.uncounted.now.contents.now.operations) c.loop-place.keys.items c.loop-place.place c.key_at.result c.key_at.ensures c.loop-place.invariant)
