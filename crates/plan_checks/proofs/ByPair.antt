-- What stands in the way of a dependency that is to be added.
use Rattle.std.proofs.Common.{◌≡◌, ◌≢◌, ◌⊎◌, inl, inr, refl, sym, subst, ℕ, ◌<◌, true, false, slice_get, Some, Result, Ok, Err, IfErr}
use Rattle.std.specs.Result.{IsErrAnd}
use Rattle.plan_basics.specs.declared.limits.TheConstants.{MOST_PAIRS}
use Rattle.std.specs.FinMap.{entries}
use Rattle.std.specs.FinSet as set
use Rattle.operation_graph.specs.Graphs.{Digraph, MayTakeEdge}
use Rattle.plan_drafts.specs.PlanGraphs.{IsGraphFor}
use Rattle.plan_basics.specs.declared.Refusal.{Refusal}
use Rattle.plan_basics.specs.declared.Refusal.TheVariants as refusal
use Rattle.plan_basics.specs.declared.keys.OpKey.{OpKey}
use Rattle.plan_basics.specs.Refusals.{IsLeastRefusal, NoneRefuses}
use Rattle.plan_model.specs.Contents.{Contents, IsInPlan, Operation, Precedes}
use Rattle.plan_model.specs.Status.{HasStatus, IsWaitingOrReady}
use Rattle.plan_model.specs.Valid.{IsAcyclic, IsValid, IsWithinLimits}
use Rattle.plan_records.specs.Acceptance.{MayBePaired}
use Rattle.plan_records.specs.Changes.{with_pair}
use Rattle.status_rules.specs.declared.Status.TheVariants as status
use Rattle.plan_checks.proofs.AdditionLines.{Below, past}
use Rattle.plan_checks.proofs.PairedPlaces.{acyclic_with, both_known, edge_by_pair, has_no_room, has_room, node_within, pair_by_edge, returning_with}
use Rattle.plan_checks.specs.Dependencies.{IsFaultAs}
use Rattle.derived_figures.specs.Reports.{IsOfStatus}
use Rattle.derived_figures.specs.plan_laws.proofs.Classes.{waits_by}
use Rattle.status_rules.specs.Classes.{is_waiting_or_ready}
use Rattle.status_rules.specs.declared.Status.{Status}
use Rattle.plan_checks.proofs.ByCommand.{not_waiting_or_ready}

module _ (P : Contents) (p s : OpKey) where
  -- both ends are operations of the plan
  abbrev pub AreKnown : Type 0
  AreKnown = IsInPlan P p × IsInPlan P s

  -- they have statuses between which a dependency may be added
  abbrev pub MayBeJoined : Type 0
  MayBeJoined = ¬ HasStatus P p status.Deleted × IsWaitingOrReady P s

  -- what is so of the lines that ask something is so of all
  line_by_line : (Q : Refusal → Type 0)
      → (Q refusal.UnknownOperation → MayBePaired P p s refusal.UnknownOperation)
      → (Q refusal.WrongStatus → MayBePaired P p s refusal.WrongStatus)
      → (Q refusal.Duplicate → MayBePaired P p s refusal.Duplicate)
      → (Q refusal.Cycle → MayBePaired P p s refusal.Cycle)
      → (Q refusal.Limit → MayBePaired P p s refusal.Limit)
      → (r : Refusal) → Q r → MayBePaired P p s r
  line_by_line Q known may new acyclic room refusal.UnknownOperation q = known q
  line_by_line Q known may new acyclic room refusal.WrongStatus q = may q
  line_by_line Q known may new acyclic room refusal.Duplicate q = new q
  line_by_line Q known may new acyclic room refusal.Cycle q = acyclic q
  line_by_line Q known may new acyclic room refusal.Limit q = room q
  line_by_line Q known may new acyclic room r q = tt

  module _ (known : AreKnown) where
    not_joined : ¬ MayBeJoined → IsLeastRefusal (MayBePaired P p s) refusal.WrongStatus
    not_joined never = (never, line_by_line (Below refusal.WrongStatus) (λ _. known) (past refl) (past refl) (past refl) (past refl))

    module _ (may : MayBeJoined) where
      paired_twice : Precedes P p s → IsLeastRefusal (MayBePaired P p s) refusal.Duplicate
      paired_twice there = (λ new. new there, line_by_line (Below refusal.Duplicate) (λ _. known) (λ _. may) (past refl) (past refl) (past refl))

      module _ (new : ¬ Precedes P p s) where
        closing : ¬ IsAcyclic (with_pair P p s).pairs → IsLeastRefusal (MayBePaired P p s) refusal.Cycle
        closing returns = (returns, line_by_line (Below refusal.Cycle) (λ _. known) (λ _. may) (λ _. new) (past refl) (past refl))

        module _ (acyclic : IsAcyclic (with_pair P p s).pairs) where
          one_too_many : ¬ IsWithinLimits (with_pair P p s) → IsLeastRefusal (MayBePaired P p s) refusal.Limit
          one_too_many full = (full, line_by_line (Below refusal.Limit) (λ _. known) (λ _. may) (λ _. new) (λ _. acyclic) (past refl))

          paired : IsWithinLimits (with_pair P p s) → NoneRefuses (MayBePaired P p s)
          paired room r = line_by_line (λ _. Unit {0}) (λ _. known) (λ _. may) (λ _. new) (λ _. acyclic) (λ _. room) r tt

-- an error that is handed on
pub handed_on : {T E : Type 0} (A : E → Type 0) (r : Result T E) (e : E) → IsErrAnd r (λ y. y ≡ e) → A e → IfErr r A
handed_on A (Ok x) e same a = tt
handed_on A (Err y) e same a = subst A (sym same) a

-- ---- in a plan with its graph

-- the row at this index is of o
abbrev pub HasRow : Contents → ℕ → OpKey → Type 0
HasRow P i o = (op : Operation) × (slice_get (entries P.operations) i ≡ Some (o, op))

-- this is the status of the operation whose row is at this index
abbrev pub IsToldAt : Contents → ℕ → Status → Type 0
IsToldAt P i x = (o : OpKey) (op : Operation) → slice_get (entries P.operations) i ≡ Some (o, op) → IsOfStatus P o x

-- of what a dependency of s on p asks of the plan, r is the least refusal; or no memory was found to decide it
abbrev pub IsBarredPair : Contents → OpKey → OpKey → Refusal → Type 0
IsBarredPair P p s r = (r ≡ refusal.Memory) ⊎ IsLeastRefusal (MayBePaired P p s) r

-- the operations p and s are in the rows i and j of a valid plan with this graph, and x and y are their statuses
pub record AreFound (P : Contents) (g : Digraph) (i j : ℕ) (p s : OpKey) (x y : Status) : Type 0 where
  pub valid : IsValid P
  pub graph : IsGraphFor P g
  pub before : HasRow P i p
  pub after : HasRow P j s
  pub first : IsOfStatus P p x
  pub second : IsOfStatus P s y

module _ {P : Contents} {g : Digraph} {i j : ℕ} {p s : OpKey} {x y : Status} (found : AreFound P g i j p s x y) where
  abbrev a : HasRow P i p
  a = found.before

  abbrev b : HasRow P j s
  b = found.after

  -- both have nodes
  pub before_within : i < g.nodes
  before_within = node_within P found.valid g found.graph i p a.0 a.1

  pub after_within : j < g.nodes
  after_within = node_within P found.valid g found.graph j s b.0 b.1

  known : AreKnown P p s
  known = both_known P found.valid g found.graph i j p s a.0 b.0 a.1 b.1

  barred_by_status : (r : Refusal) → r ≡ refusal.WrongStatus → ¬ MayBeJoined P p s → IsLeastRefusal (MayBePaired P p s) r
  barred_by_status r is never = subst (IsLeastRefusal (MayBePaired P p s)) (sym is) (not_joined P p s known never)

  -- by the statuses
  pub barred_by_ends : (r : Refusal) → (r ≡ refusal.WrongStatus) × ((x ≡ status.Deleted) ⊎ (is_waiting_or_ready y ≡ false)) → IsBarredPair P p s r
  barred_by_ends r (is, inl deleted) = inr (barred_by_status r is (λ may. may.0 (subst (HasStatus P p) deleted found.first.status)))
  barred_by_ends r (is, inr other) = inr (barred_by_status r is (λ may. not_waiting_or_ready P s y found.second.alone other may.1))

  module _ (live : x ≢ status.Deleted) (waits : is_waiting_or_ready y ≡ true) where
    joined : MayBeJoined P p s
    joined = (λ deleted. live (sym (found.first.alone status.Deleted deleted)), waits_by P s y found.second.status waits)

    -- by the graph
    pub barred_by_edge : (r : Refusal) → IsFaultAs g i j r → IsBarredPair P p s r
    barred_by_edge refusal.Duplicate there = inr (paired_twice P p s known joined (pair_by_edge P found.valid g found.graph i j p s a.0 b.0 a.1 b.1 there))
    barred_by_edge refusal.Cycle closes = inr (closing P p s known joined (λ pair. closes.0 (edge_by_pair P found.valid g found.graph i j p s a.0 b.0 a.1 b.1 pair))
        (returning_with P found.valid g found.graph i j p s a.0 b.0 a.1 b.1 closes.1))
    barred_by_edge refusal.Memory none = inl refl
    barred_by_edge r never = absurd never

    module _ (may : MayTakeEdge g i j) where
      new : ¬ Precedes P p s
      new pair = may.0 (edge_by_pair P found.valid g found.graph i j p s a.0 b.0 a.1 b.1 pair)

      open_with : IsAcyclic (with_pair P p s).pairs
      open_with = acyclic_with P found.valid g found.graph i j p s a.0 b.0 a.1 b.1 may.1

      -- by the room
      pub barred_by_room : ¬ (set.len P.pairs < MOST_PAIRS) → IsBarredPair P p s refusal.Limit
      barred_by_room full = inr (one_too_many P p s known joined new open_with (has_no_room P found.valid g found.graph p s new full))

      pub may_be_paired : set.len P.pairs < MOST_PAIRS → NoneRefuses (MayBePaired P p s)
      may_be_paired room = paired P p s known joined new open_with (has_room P found.valid g found.graph p s new room)
