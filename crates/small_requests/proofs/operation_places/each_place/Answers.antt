use Rattle.std.proofs.Common.{sym, subst}
use Rattle.plan_model.specs.Contents.{IsInPlan}
use Rattle.small_requests.proofs.operation_places.each_place.Goals as goal

pub place_of-requires : goal.place_of-requires
place_of-requires c = subst (IsInPlan c.args.uncounted.now.contents.now) (sym c.key-item.is) (c.requires c.loop-key.key-index c.key-item.result c.loop-key-test.true)
