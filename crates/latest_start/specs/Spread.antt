-- Starts that change node by node, along predecessors, from the greatest rank down.
use Rattle.std.specs.Prelude.{◌≡◌, ◌⊎◌, ℕ, ◌+◌, ◌*◌, ◌<◌, ◌≤◌, ℤ, Bool, false, List, [], ◌∷◌, ◌++◌, map, length, replicate, Contains, Some, slice_get, slice_set, slice_index_or, if◌then◌else◌}
use Rattle.std.specs.BinaryHeap.{IsHeap, heap_items, heap_len}
use Rattle.std.specs.List.Sorted.{IsPermutation}
use Rattle.std.specs.Ordering.{nat_cmp, ordering_then}
use Rattle.operation_graph.specs.Adjacency.{count_of}
use Rattle.operation_graph.specs.Graphs.{Digraph, HasEdge, IsSet, rank_of}
use Rattle.latest_start.specs.declared.Item.{Item}
use Rattle.latest_start.specs.declared.spreading.Spread.{Spread}
use Rattle.latest_start.specs.NodeStarts.{IsNewStart}
use Rattle.latest_start.specs.Passes.{IsStartBy}

-- what they say of n is its start by what they say of its successors
abbrev pub IsConsistent : Digraph → List Item → List ℤ → ℕ → Type 0
IsConsistent g items starts n = (v : ℤ) × (slice_get starts n ≡ Some v) × IsStartBy g items starts n v

-- that is so of each node
abbrev pub AreConsistent : Digraph → List Item → List ℤ → Type 0
AreConsistent g items starts = (n : ℕ) → n < g.nodes → IsConsistent g items starts n

-- nodes with their ranks are in a heap's order, by rank first
abbrev pub AreInHeapOrder : List (ℕ × ℕ) → Type 0
AreInHeapOrder heap = IsHeap (λ a b. ordering_then (nat_cmp a.0 b.0) (nat_cmp a.1 b.1)) heap

-- n is in the heap, by its rank, or still to be queued
abbrev pub IsWaiting : Digraph → List (ℕ × ℕ) → List ℕ → ℕ → Type 0
IsWaiting g heap rest n = Contains heap (rank_of g n, n) ⊎ Contains rest n

-- b is a successor of n that had no old start
abbrev pub IsNewSuccessor : Digraph → List ℤ → ℕ → ℕ → Type 0
IsNewSuccessor g old n b = HasEdge g n b × (b < g.nodes) × (length old ≤ b)

-- n waits, or it is consistent where none of its new successors waits
abbrev pub IsSettled : Digraph → List Item → List ℤ → List ℤ → List (ℕ × ℕ) → List ℕ → ℕ → Type 0
IsSettled g items old starts heap rest n =
    IsWaiting g heap rest n ⊎ (((b : ℕ) → IsNewSuccessor g old n b → ¬ IsWaiting g heap rest b) → IsConsistent g items starts n)

-- how often a node is in the heap
abbrev pub times_waiting : List (ℕ × ℕ) → ℕ → ℕ
times_waiting heap n = count_of n (map (λ (e : ℕ × ℕ). e.1) heap)

-- how often a node is listed with a value
abbrev pub times_listed : List (ℕ × ℤ) → ℕ → ℕ
times_listed values n = count_of n (map (λ (p : ℕ × ℤ). p.0) values)

-- which nodes wait by their ranks, which were queued, and which have left the heap
pub record IsQueue (g : Digraph) (queued : List Bool) (heap : List (ℕ × ℕ)) (values : List (ℕ × ℤ)) (rest : List ℕ) (top : ℕ) : Type 0 where
  pub size : length queued ≡ g.nodes
  pub in_order : AreInHeapOrder heap
  -- what waits is a node with its rank, of at most top
  pub entries : (e : ℕ × ℕ) → Contains heap e → (e.1 < g.nodes) × (e.0 ≡ rank_of g e.1) × (e.0 ≤ top)
  -- what is still to be queued has a rank below top
  pub to_queue : (n : ℕ) → Contains rest n → rank_of g n < top
  -- what was queued and waits no more has a rank of at least top
  pub taken : (n : ℕ) → IsSet queued n → Contains heap (rank_of g n, n) ⊎ (top ≤ rank_of g n)
  -- what was queued waits or is listed, once at most; what wasn't does neither
  pub once : (n : ℕ) → times_waiting heap n + times_listed values n ≤ (if slice_index_or queued n false then 1 else 0)

-- all nodes are settled, and exactly the new starts are listed, but for those of new nodes that wait
pub record AreSettled (g : Digraph) (items : List Item) (old starts : List ℤ) (heap : List (ℕ × ℕ)) (values : List (ℕ × ℤ)) (rest : List ℕ)
    : Type 0 where
  pub size : length starts ≡ g.nodes
  pub settled : (n : ℕ) → n < g.nodes → IsSettled g items old starts heap rest n
  pub right : (n : ℕ) (v : ℤ) → Contains values (n, v) → IsNewStart old starts n v
  pub complete : (n : ℕ) (v : ℤ) → IsNewStart old starts n v → Contains values (n, v) ⊎ ((length old ≤ n) × IsWaiting g heap rest n)

-- how far new starts have spread: what waits, and what is settled
pub record IsSpread (g : Digraph) (items : List Item) (old starts : List ℤ) (queued : List Bool) (heap : List (ℕ × ℕ)) (values : List (ℕ × ℤ))
    (rest : List ℕ) (top : ℕ) : Type 0 where
  pub queue : IsQueue g queued heap values rest top
  pub settled : AreSettled g items old starts heap values rest

-- that is so of what is kept, with these in the heap
abbrev pub IsSpreadOver : Digraph → List Item → List ℤ → List (ℕ × ℕ) → Spread → List ℕ → ℕ → Type 0
IsSpreadOver g items old heap s rest top = IsSpread g items old s.starts.items s.queued.items heap s.values.items rest top

-- that is so of what is kept
abbrev pub IsSpreadTo : Digraph → List Item → List ℤ → Spread → List ℕ → ℕ → Type 0
IsSpreadTo g items old s = IsSpreadOver g items old (heap_items s.waiting) s

-- there is a start and a flag for each of n nodes
abbrev pub HasSize : ℕ → Spread → Type 0
HasSize n s = (length s.starts.items ≡ n) × (length s.queued.items ≡ n)

-- the old starts, and some for new nodes; nothing is queued
pub record IsBegun (n : ℕ) (old : List ℤ) (s : Spread) : Type 0 where
  pub size : length s.starts.items ≡ n
  pub kept : (m : ℕ) → m < length old → slice_get s.starts.items m ≡ slice_get old m
  pub queued : s.queued.items ≡ replicate n false
  pub waiting : heap_items s.waiting ≡ []
  pub in_order : AreInHeapOrder (heap_items s.waiting)
  pub values : s.values.items ≡ []

-- a node gets a start and is listed with it
pub record IsPut (s : Spread) (n : ℕ) (v : ℤ) (t : Spread) : Type 0 where
  pub starts : t.starts.items ≡ slice_set s.starts.items n v
  pub values : t.values.items ≡ s.values.items ++ (n, v) ∷ []
  pub queued : t.queued ≡ s.queued
  pub waiting : t.waiting ≡ s.waiting

-- a node with its rank was taken from the heap, and none is left of a greater rank
pub record IsTaken (before : List (ℕ × ℕ)) (rank n : ℕ) (left : List (ℕ × ℕ)) : Type 0 where
  pub moved : IsPermutation before ((rank, n) ∷ left)
  pub low : (e : ℕ × ℕ) → Contains left e → e.0 ≤ rank
  pub in_order : AreInHeapOrder left

-- how many weren't queued
abbrev pub unqueued : List Bool → ℕ
unqueued [] = 0
unqueued (q ∷ queued) = (if q then 0 else 1) + unqueued queued

-- at most how often a node is still queued or taken from the heap
abbrev pub steps_left : Spread → ℕ
steps_left s = 2 * unqueued s.queued.items + heap_len s.waiting
