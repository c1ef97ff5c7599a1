use Rattle.start_choice.proofs.HeldRows.{AreHeldAmong}
use Rattle.start_choice.proofs.holders.holdings_in.Given as goal

-- these are the holders among the rows that are gone through
abbrev pub invariant-loop-row : goal.invariant-loop-row
invariant-loop-row l = AreHeldAmong l.contents l.row-index l.holdings.held
