use Rattle.small_requests.proofs.SmallMoves.{small_requests_keep_others, small_requests_move}
use Rattle.small_requests.proofs.laws.small_requests_move.Goals as goal

pub returns : goal.returns
returns c = record { moves = small_requests_move; others = small_requests_keep_others }
