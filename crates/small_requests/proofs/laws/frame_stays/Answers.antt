use Rattle.small_requests.proofs.OneFrame.{frame_stays, lives_follow, moves_follow, operations_stay}
use Rattle.small_requests.proofs.laws.frame_stays.Goals as goal

pub returns : goal.returns
returns c = record { frame = frame_stays; follow = moves_follow; lives = lives_follow; nowhere = operations_stay }
