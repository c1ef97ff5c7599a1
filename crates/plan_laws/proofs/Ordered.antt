-- A plan without returning paths has a rank, and paths in it can be decided.
use Rattle.std.proofs.Common.{ℕ, ◌≤◌, length}
use Rattle.std.specs.FinSet as set
use Rattle.operation_graph.specs.Paths.{IsRankBy, LeadsBy}
use Rattle.plan_basics.specs.declared.keys.OpKey.{OpKey}
use Rattle.plan_laws.proofs.Entries.{same_operation}
use Rattle.plan_records.specs.plan_model.proofs.Members.{in_items}
use Rattle.plan_laws.proofs.Pairs.{pair_cmp-IsAntisymmetric, pair_cmp_total}
use Rattle.operation_graph.proofs.Ranks.{AreEdges, has_rank, told_acyclic, told_leads}
use Rattle.operation_graph.proofs.Telling.{Told}
use Rattle.plan_laws.specs.Ranks.{ValidHasRank}
use Rattle.plan_records.specs.plan_model.specs.Contents.{IsPairOf, Pairs}
use Rattle.plan_records.specs.plan_model.specs.Valid.{IsAcyclic}

pub pairs_are_edges : (pairs : Pairs) → AreEdges (IsPairOf pairs) (set.items pairs)
pairs_are_edges pairs a b = in_items pair_cmp_total pair_cmp-IsAntisymmetric pairs (a, b)

pub told_path : (pairs : Pairs) (a b : OpKey) → Told (LeadsBy (IsPairOf pairs) a b)
told_path pairs = told_leads same_operation (IsPairOf pairs) (set.items pairs) (pairs_are_edges pairs)

pub told_acyclic_pairs : (pairs : Pairs) → Told (IsAcyclic pairs)
told_acyclic_pairs pairs = told_acyclic same_operation (IsPairOf pairs) (set.items pairs) (pairs_are_edges pairs)

pub pairs_have_rank : (pairs : Pairs) → IsAcyclic pairs → (rank : OpKey → ℕ) × IsRankBy (IsPairOf pairs) rank × ((o : OpKey) → rank o ≤ length (set.items pairs))
pairs_have_rank pairs acyclic = has_rank same_operation (IsPairOf pairs) (set.items pairs) (pairs_are_edges pairs) acyclic

pub valid_has_rank : ValidHasRank
valid_has_rank P valid = let r = pairs_have_rank P.pairs valid.acyclic in (r.0, r.1)
