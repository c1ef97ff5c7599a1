-- The graph of what a deletion or a dependency makes, by that of the plan.
use Rattle.std.proofs.Common.{◌≡◌, refl, sym, ap, subst, ◌∙◌, arith, ℕ, ◌<◌, List, [], ◌∷◌, length}
use Rattle.std.specs.FinMap.{entries, keys}
use Rattle.std.specs.Map.{keys_of}
use Rattle.operation_graph.specs.Graphs.{Digraph}
use Rattle.plan_basics.specs.Keys.{operation_cmp, operation_cmp_total, operation_cmp-IsAntisymmetric}
use Rattle.plan_basics.specs.declared.keys.OccKey.{OccKey}
use Rattle.plan_basics.specs.declared.keys.OpKey.{OpKey}
use Rattle.plan_records.specs.Changes.{Changes}
use Rattle.plan_records.specs.declared.What.TheVariants as what
use Rattle.plan_drafts.proofs.Lists.{length_map}
use Rattle.plan_drafts.proofs.MadeEntries.{each_made, entries-revise}
use Rattle.plan_drafts.specs.PlanGraphs.{IsGraphFor, IsGraphOf}
use Rattle.plan_model.proofs.Entries.{keys_of-entries}
use Rattle.plan_model.specs.Contents.{Contents, Operation}
use Rattle.plan_model.specs.Revise.{revise}

-- rows that are made anew keep their keys
keys_kept : {K V : Type 0} (f : K → V → V) (rows : List (K × V)) → keys_of (each_made f rows) ≡ keys_of rows
keys_kept f [] = refl
keys_kept f (row ∷ rows) = ap (λ ks. row.0 ∷ ks) (keys_kept f rows)

-- so a plan whose operations are made anew has the same graph
module _ (P : Contents) (f : OpKey → Operation → Operation) where
  abbrev after : Contents
  after = record P { operations = revise f P.operations }

  same_keys : keys after.operations ≡ keys P.operations
  same_keys =
      keys_of-entries operation_cmp after.operations
      ∙ ap keys_of (entries-revise operation_cmp operation_cmp_total operation_cmp-IsAntisymmetric f P.operations)
      ∙ keys_kept f (entries P.operations)
      ∙ sym (keys_of-entries operation_cmp P.operations)

  graph_stays : (g : Digraph) → IsGraphFor P g → IsGraphFor after g
  graph_stays g graph = subst (λ ks. IsGraphOf ks P.pairs g) (sym same_keys) graph

-- a deletion keeps the graph
pub deletion_keeps_graph : (P Q : Contents) (c : OccKey) → Changes P (what.DeleteOccurrence c) Q → (g : Digraph) → IsGraphFor P g → IsGraphFor Q g
deletion_keeps_graph P Q c change g graph = subst (λ (R : Contents). IsGraphFor R g) (sym change) (graph_stays P _ g graph)

-- an index of an operation is a node
pub node_within : (P : Contents) (g : Digraph) → IsGraphFor P g → (i : ℕ) → i < length (entries P.operations) → i < g.nodes
node_within P g graph i lt = omega (arith, lt, graph.nodes, ap length (keys_of-entries operation_cmp P.operations), length_map (λ (e : OpKey × Operation). e.0) (entries P.operations))
