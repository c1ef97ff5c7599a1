use Rattle.std.proofs.Common.{◌≤◌, ◌+◌, length}
use Rattle.start_choice.proofs.NeedsTaken.{AreTakenSoFar}
use Rattle.start_choice.proofs.holders.take_marked.Given as goal

-- the first needs are taken, and there is room for the others
abbrev pub invariant-loop-need : goal.invariant-loop-need
invariant-loop-need l = record {
  room : length l.needs ≤ l.holdings.room + l.need-index;
  taken : AreTakenSoFar l.fn.holdings.held l.key l.needs l.mark l.need-index l.holdings.held;
}
