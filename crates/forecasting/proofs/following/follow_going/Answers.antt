use Rattle.std.proofs.Common.{refl}
use Rattle.forecasting.proofs.Followed.{none_among}
use Rattle.forecasting.proofs.following.follow_going.Goals as goal

pub returns-in_default : goal.returns-in_default
returns-in_default c = none_among c.args.plan.now.plan.contents (c.in_default.ensures.none refl) _ _ _ c.requires.going
