use Rattle.std.proofs.Common.{refl}
use Rattle.desk_runs.proofs.following.follow.Goals as goal

pub returns-clause-followed : goal.returns-clause-followed
returns-clause-followed c = λ P going. record { ahead = refl; bound = refl; going = c.in_ok-follow.ensures.going; starts = c.in_ok-follow.ensures.starts P going }
