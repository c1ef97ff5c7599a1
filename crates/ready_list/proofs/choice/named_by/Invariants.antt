use Rattle.std.proofs.Common.{◌≡◌, drop}
use Rattle.ready_list.proofs.Turns.{GoesOn}
use Rattle.ready_list.proofs.choice.named_by.Given as goal

abbrev pub invariant-loop-entry : goal.invariant-loop-entry
invariant-loop-entry g l = record {
  source : g.G.Gate.source l.gate ≡ g.G.Gate.source l.fn.gate;
  goes_on : GoesOn g.G.Gate.answers g.G.Gate.refuses l.entries (drop l.entry-index l.entries) l.fn.gate l.gate l.named.items;
}
