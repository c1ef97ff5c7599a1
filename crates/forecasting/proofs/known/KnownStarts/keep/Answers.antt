use Rattle.std.proofs.Common.{refl}
use Rattle.forecasting.proofs.Kept.{key_apart}
use Rattle.forecasting.proofs.known.KnownStarts.keep.Goals as goal

pub returns : goal.returns
returns c = let updates = c.in_ok-insert.ensures.updates in (updates.1, λ p apart. updates.2 p (key_apart c.args.key p apart), refl)
