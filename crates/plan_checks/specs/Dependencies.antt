-- Why the graph of a plan can't take one more edge.
use Rattle.std.specs.Prelude.{ℕ}
use Rattle.operation_graph.specs.Graphs.{Digraph, IsFaultOf}
use Rattle.operation_graph.specs.declared.EdgeFault.TheVariants as fault
use Rattle.plan_basics.specs.declared.Refusal.{Refusal}
use Rattle.plan_basics.specs.declared.Refusal.TheVariants as refusal

-- the graph's fault with an edge from node p to node s, as the refusal of its name; which lines of a request it breaks is for the caller to say
abbrev pub IsFaultAs : Digraph → ℕ → ℕ → Refusal → Type 0
IsFaultAs g p s refusal.Duplicate = IsFaultOf g p s fault.Duplicate
IsFaultAs g p s refusal.Cycle = IsFaultOf g p s fault.Cycle
IsFaultAs g p s refusal.Memory = IsFaultOf g p s fault.Memory
IsFaultAs g p s _ = ⊥
