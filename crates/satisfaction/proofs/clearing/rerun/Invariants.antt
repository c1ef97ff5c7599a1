use Rattle.std.proofs.Common.{◌⊎◌, ℕ, List, [], drop, Contains}
use Rattle.satisfaction.specs.Changes.{IsAfterOne, IsClearing}
use Rattle.satisfaction.specs.declared.nodes.WaitState.{WaitState}
use Rattle.satisfaction.specs.Journal.{IsJournaled}
use Rattle.satisfaction.proofs.clearing.rerun.Given as goal

abbrev pub invariant-loop-node : goal.invariant-loop-node
invariant-loop-node g l = record {
  gone : List ℕ;
  among : (n : ℕ) → Contains gone n → Contains l.reached n;
  covered : (n : ℕ) → Contains l.reached n → Contains gone n ⊎ Contains (drop l.node-index l.reached) n;
  clearing : IsClearing l.graph l.fn.wait_states gone l.wait_states [];
  places : (e : ℕ × WaitState) → Contains l.journal.items e → Contains l.fn.journal.items e ⊎ (Contains l.reached e.0 ⊎ IsAfterOne l.graph l.reached e.0);
  journaled : IsJournaled l.fn.wait_states l.fn.journal.items l.wait_states l.journal.items;
}
