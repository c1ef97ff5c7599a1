use Rattle.small_requests.proofs.ChosenEntries.{chosen_are_ready, ready_are_unsatisfied}
use Rattle.small_requests.proofs.SmallMoves.{naming_moves}
use Rattle.small_requests.proofs.laws.naming_moves.Goals as goal

pub returns : goal.returns
returns c = record { moves = naming_moves; unsatisfied = ready_are_unsatisfied; chosen = chosen_are_ready }
