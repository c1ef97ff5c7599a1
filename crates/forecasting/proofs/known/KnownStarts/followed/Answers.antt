use Rattle.std.proofs.Common.{refl}
use Rattle.forecasting.proofs.Kept.{kept_of_nothing}
use Rattle.forecasting.proofs.known.KnownStarts.followed.Goals as goal

pub returns-in-None : goal.returns-in-None
returns-in-None c =
    let h = kept_of_nothing c.args.plan.now.plan.contents c.args.self.now c.args.fresh.now (c.in-None.ensures.none refl) c.empty.result c.empty.ensures.entries c.empty.ensures.follows in
    record { going = h.0; kept = h.1 }
