use Rattle.board_pages.proofs.Unknown.{unknown_is_told}
use Rattle.board_pages.proofs.laws.unknown_is_told.Goals as goal

pub returns : goal.returns
returns c = unknown_is_told
