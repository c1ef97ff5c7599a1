use Rattle.std.proofs.Common.{◌≡◌, ◌⊎◌, Contains, ℕ, List, [], ◌∷◌, drop}
use Rattle.operation_graph.specs.Graphs.{HasEdge}
use Rattle.satisfaction.specs.declared.nodes.WaitState.{WaitState}
use Rattle.satisfaction.specs.Changes.{IsClearing}
use Rattle.satisfaction.specs.Journal.{IsJournaled}
use Rattle.satisfaction.proofs.clearing.clear.Given as goal

abbrev pub invariant-loop-succ : goal.invariant-loop-succ
invariant-loop-succ l = record {
  step : (start : List WaitState) (gone : List ℕ) → IsClearing l.graph start gone l.fn.wait_states [] → IsClearing l.graph start (l.node ∷ gone) l.wait_states (drop l.succ-index l.succ-items);
  places : (e : ℕ × WaitState) → Contains l.journal.items e → Contains l.fn.journal.items e ⊎ ((e.0 ≡ l.node) ⊎ HasEdge l.graph l.node e.0);
  journaled : IsJournaled l.fn.wait_states l.fn.journal.items l.wait_states l.journal.items;
}
