-- What a change of nodes' rules does to what is kept: a rerun takes back, all else adds.
use Rattle.std.specs.Prelude.{◌≡◌, ◌⊎◌, ℕ, ◌+◌, ◌<◌, ◌≤◌, false, List, length, All, Contains, true}
use Rattle.operation_graph.specs.Adjacency.{count_of}
use Rattle.operation_graph.specs.Graphs.{Digraph, HasEdge}
use Rattle.satisfaction.specs.declared.nodes.WaitState.{WaitState}
use Rattle.satisfaction.specs.declared.nodes.Rule.{Rule}
use Rattle.satisfaction.specs.Counters.{IsGiven, is_satisfied_at, rule_at, unsatisfied_before, waiting_at}

-- those that are gone aren't satisfied, all others are as at the start; counters lack `rest` of the successors of one
pub record IsClearing (g : Digraph) (start : List WaitState) (gone : List ℕ) (wait_states : List WaitState) (rest : List ℕ) : Type 0 where
  pub size : length wait_states ≡ g.nodes
  pub within : (n : ℕ) → Contains rest n → n < g.nodes
  pub cleared : (n : ℕ) → Contains gone n → is_satisfied_at wait_states n ≡ false
  pub others : (n : ℕ) → ¬ Contains gone n → is_satisfied_at wait_states n ≡ is_satisfied_at start n
  pub counts : (n : ℕ) → n < g.nodes → waiting_at wait_states n + count_of n rest ≡ unsatisfied_before g wait_states n

-- these nodes get other rules, and each node that follows one of them is one of them, or is satisfied whatever precedes it
pub record IsRerun (g : Digraph) (before : List Rule) (reached : List ℕ) (after : List Rule) : Type 0 where
  pub size : length after ≡ length before
  pub nodes : All (λ n. n < g.nodes) reached
  pub others : (n : ℕ) → ¬ Contains reached n → rule_at after n ≡ rule_at before n
  pub follow : (p n : ℕ) → Contains reached p → HasEdge g p n → Contains reached n ⊎ IsGiven before n

-- these nodes get other rules, and each of them that is satisfied is given by its new one
pub record IsUpward (g : Digraph) (before : List Rule) (wait_states : List WaitState) (changed : List ℕ) (after : List Rule) : Type 0 where
  pub size : length after ≡ length before
  pub nodes : All (λ n. n < g.nodes) changed
  pub others : (n : ℕ) → ¬ Contains changed n → rule_at after n ≡ rule_at before n
  pub given : (n : ℕ) → Contains changed n → is_satisfied_at wait_states n ≡ true → (rule_at after n).given ≡ true

-- no node waits for more predecessors than before; each entry since is of one of these nodes, or of one that waits for fewer
pub record IsLowering (nodes : List ℕ) (wait_states : List WaitState) (journal : List (ℕ × WaitState)) (new_kept : List WaitState) (new_journal : List (ℕ × WaitState)) : Type 0 where
  pub fewer : (n : ℕ) → waiting_at new_kept n ≤ waiting_at wait_states n
  pub places : (e : ℕ × WaitState) → Contains new_journal e → Contains journal e ⊎ (Contains nodes e.0 ⊎ (waiting_at new_kept e.0 < waiting_at wait_states e.0))

-- each of these nodes that has a predecessor is among those
abbrev pub HoldFollowers : Digraph → List ℕ → List ℕ → Type 0
HoldFollowers g nodes followers = (n p : ℕ) → Contains nodes n → HasEdge g p n → Contains followers n

-- n follows one of these nodes
abbrev pub IsAfterOne : Digraph → List ℕ → ℕ → Type 0
IsAfterOne g nodes n = (p : ℕ) × Contains nodes p × HasEdge g p n

-- each entry since is of one of these nodes, of one that follows one of them, or of one that waits for fewer predecessors than before
abbrev pub AreAround : Digraph → List ℕ → List WaitState → List (ℕ × WaitState) → List WaitState → List (ℕ × WaitState) → Type 0
AreAround g nodes wait_states journal new_kept new_journal =
    (e : ℕ × WaitState) → Contains new_journal e → Contains journal e ⊎ (Contains nodes e.0 ⊎ (IsAfterOne g nodes e.0 ⊎ (waiting_at new_kept e.0 < waiting_at wait_states e.0)))
