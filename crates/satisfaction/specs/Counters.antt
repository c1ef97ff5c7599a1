-- What is kept of a graph's nodes: which are satisfied, and how many predecessors of each aren't.
use Rattle.std.specs.Prelude.{◌≡◌, ◌⊎◌, ◌↔◌, ℕ, zero, suc, ◌+◌, ◌<◌, Bool, true, false, List, [], ◌∷◌, length, slice_index_or, slice_set, Contains, if◌then◌else◌, ◌==◌}
use Rattle.std.specs.FinSet.{contains}
use Rattle.operation_graph.specs.Adjacency.{count_of}
use Rattle.operation_graph.specs.Graphs.{Digraph, HasEdge}
use Rattle.status_rules.specs.LeastSet.{LeastSet}
use Rattle.satisfaction.specs.declared.nodes.WaitState.{WaitState}
use Rattle.satisfaction.specs.declared.nodes.Rule.{Rule}

-- where there is no node: never satisfied
abbrev pub no_rule : Rule
no_rule = record { given = false; passing = false }

-- where there is no node: not satisfied, and nothing is waited for
abbrev pub no_wait_state : WaitState
no_wait_state = record { satisfied = false; waiting = 0 }

-- the rule of a node
abbrev pub rule_at : List Rule → ℕ → Rule
rule_at rules n = slice_index_or rules n no_rule

-- it is satisfied whatever precedes it
abbrev pub IsGiven : List Rule → ℕ → Type 0
IsGiven rules n = (rule_at rules n).given ≡ true

-- it is satisfied once all its predecessors are
abbrev pub IsPassing : List Rule → ℕ → Type 0
IsPassing rules n = (rule_at rules n).passing ≡ true

-- the least set by these rules
abbrev pub IsSatisfiedBy : Digraph → List Rule → ℕ → Type 0
IsSatisfiedBy g rules = LeastSet (IsGiven rules) (IsPassing rules) (HasEdge g)

-- what is kept of a node
abbrev pub wait_state_at : List WaitState → ℕ → WaitState
wait_state_at wait_states n = slice_index_or wait_states n no_wait_state

-- whether a node is kept as satisfied
abbrev pub is_satisfied_at : List WaitState → ℕ → Bool
is_satisfied_at wait_states n = (wait_state_at wait_states n).satisfied

-- how many predecessors a node is kept to wait for
abbrev pub waiting_at : List WaitState → ℕ → ℕ
waiting_at wait_states n = (wait_state_at wait_states n).waiting

-- what is kept, once a node waits for one predecessor more
abbrev pub with_one_more : List WaitState → ℕ → List WaitState
with_one_more wait_states n = slice_set wait_states n (record (wait_state_at wait_states n) { waiting = waiting_at wait_states n + 1 })

-- one where an edge leads from p to n, else nothing
abbrev pub edge_count : Digraph → ℕ → ℕ → ℕ
edge_count g p n = if contains g.edges (p, n) then 1 else 0

-- how many predecessors of n below a node aren't satisfied
abbrev pub unsatisfied_below : Digraph → List WaitState → ℕ → ℕ → ℕ
unsatisfied_below g wait_states zero n = 0
unsatisfied_below g wait_states (suc p) n = (if is_satisfied_at wait_states p then 0 else edge_count g p n) + unsatisfied_below g wait_states p n

-- how many predecessors of n aren't satisfied
abbrev pub unsatisfied_before : Digraph → List WaitState → ℕ → ℕ
unsatisfied_before g wait_states n = unsatisfied_below g wait_states g.nodes n

-- how many nodes aren't satisfied
abbrev pub unsatisfied_count : List WaitState → ℕ
unsatisfied_count [] = 0
unsatisfied_count (k ∷ wait_states) = (if k.satisfied then 0 else 1) + unsatisfied_count wait_states

-- one where a node isn't satisfied and waits for some predecessor, else nothing
abbrev pub one_if_waiting : WaitState → ℕ
one_if_waiting k = if k.satisfied then 0 else (if k.waiting == 0 then 0 else 1)

-- how many nodes aren't satisfied and wait for some predecessor
abbrev pub waiting_count : List WaitState → ℕ
waiting_count [] = 0
waiting_count (k ∷ wait_states) = one_if_waiting k + waiting_count wait_states

-- how many of the nodes at work lead to n
abbrev pub leading_count : Digraph → List ℕ → ℕ → ℕ
leading_count g [] n = 0
leading_count g (p ∷ work) n = edge_count g p n + leading_count g work n

-- its rule says that a node is satisfied, by what is kept of it
abbrev pub IsDue : List Rule → List WaitState → ℕ → Type 0
IsDue rules wait_states n = IsGiven rules n ⊎ (IsPassing rules n × (waiting_at wait_states n ≡ 0))

-- what is kept is right: the nodes that are satisfied are the least set, and each counter is the number of predecessors that aren't
pub record AreRight (g : Digraph) (rules : List Rule) (wait_states : List WaitState) : Type 0 where
  pub size : length wait_states ≡ g.nodes
  pub rules_size : length rules ≡ g.nodes
  pub satisfied : (n : ℕ) → n < g.nodes → (is_satisfied_at wait_states n ≡ true) ↔ IsSatisfiedBy g rules n
  pub counts : (n : ℕ) → n < g.nodes → waiting_at wait_states n ≡ unsatisfied_before g wait_states n

-- on the way: nodes that are pending may be due and not satisfied; counters still count the nodes at work, and `rest` of the successors of one
pub record IsCascade (g : Digraph) (rules : List Rule) (pending : List ℕ) (wait_states : List WaitState) (work rest : List ℕ) : Type 0 where
  pub size : length wait_states ≡ g.nodes
  pub rules_size : length rules ≡ g.nodes
  pub within : (n : ℕ) → Contains work n → n < g.nodes
  pub rest_within : (n : ℕ) → Contains rest n → n < g.nodes
  pub sound : (n : ℕ) → n < g.nodes → is_satisfied_at wait_states n ≡ true → IsSatisfiedBy g rules n
  pub closed : (n : ℕ) → n < g.nodes → IsDue rules wait_states n → (is_satisfied_at wait_states n ≡ true) ⊎ Contains pending n
  pub counts : (n : ℕ) → n < g.nodes → waiting_at wait_states n ≡ unsatisfied_before g wait_states n + (leading_count g work n + count_of n rest)
