-- An edge closes a path exactly where its second node reaches its first.
use Rattle.std.proofs.Common.{◌≡◌, ◌⊎◌, ◌↔◌, inl, inr, refl, subst, ℕ, true, false, List, [], ◌∷◌, replicate}
use Rattle.std.proofs.lemmas.List.{get_or-replicate}
use Rattle.operation_graph.specs.Graphs.{Closes, Digraph, HasEdge, IsGraph, IsSet}
use Rattle.operation_graph.specs.Paths.{IsPathBy, LeadsBy, ReachesBy, by_edge, by_more, end_of}

module _ {K : Type 0} (edge : K → K → Type 0) (live : K → Type 0) where
  -- a path is no more than where it begins, or leads on
  leads : (a : K) (rest : List K) (c : K) → IsPathBy edge live a rest → end_of a rest ≡ c → (a ≡ c) ⊎ LeadsBy edge a c
  leads a [] c path e = inl e
  leads a (b ∷ rest) c path e = inr (elim (leads b rest c path.2 e) [
    | inl same ↦ subst (LeadsBy edge a) same (by_edge path.0)
    | inr more ↦ by_more path.0 more
  ])

  reaches : ((a b : K) → edge a b → live b) → {a c : K} → LeadsBy edge a c → ReachesBy edge live a c
  reaches all {a} {c = b} (by_edge e) = (b ∷ [], (e, all a b e, tt), refl)
  reaches all {a} (by_more {b = b} e more) = let r = reaches all more in (b ∷ r.0, (e, all a b e, r.1), r.2)

-- where all nodes are live
pub closes_by_reach : (g : Digraph) (p s : ℕ) → IsGraph g → ReachesBy (HasEdge g) (IsSet (replicate g.nodes true)) s p ↔ Closes g p s
closes_by_reach g p s graph = (to, back)
  where
    live : ℕ → Type 0
    live = IsSet (replicate g.nodes true)

    to : ReachesBy (HasEdge g) live s p → Closes g p s
    to r = leads (HasEdge g) live s r.0 p r.1 r.2

    back : Closes g p s → ReachesBy (HasEdge g) live s p
    back (inl same) = ([], tt, same)
    back (inr path) = reaches (HasEdge g) live (λ a b e. get_or-replicate g.nodes b true false (graph.ends a b e).1) path
