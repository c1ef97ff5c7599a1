-- A pair that is added closes a path exactly where a path leads back from its second end to its first.
use Rattle.std.proofs.Common.{◌≢◌, ◌↔◌, inl, inr, sym, ◌∙◌, ap}
use Rattle.std.specs.Ordering.{eq_by_cmp, is_eq}
use Rattle.std.specs.Cmp.{tied_itself}
use Rattle.std.specs.FinSet as set
use Rattle.operation_graph.specs.Paths.{LeadsBy}
use Rattle.plan_basics.specs.declared.keys.OpKey.{OpKey}
use Rattle.std.proofs.lemmas.Bool.{or_cases, or_left, or_right}
use Rattle.operation_graph.proofs.Joining.{stays_acyclic}
use Rattle.plan_laws.proofs.Pairs.{pair_cmp_total, pair_same}
use Rattle.plan_records.specs.plan_model.specs.Contents.{IsPairOf, Pairs, pair_cmp}
use Rattle.plan_records.specs.plan_model.specs.Valid.{IsAcyclic}

pub pair_closes_a_path : (pairs : Pairs) (p s : OpKey) → IsAcyclic pairs → IsAcyclic (set.insert pairs (p, s)) ↔ ((p ≢ s) × ¬ LeadsBy (IsPairOf pairs) s p)
pair_closes_a_path pairs p s acyclic =
    stays_acyclic (IsPairOf pairs) (IsPairOf (set.insert pairs (p, s))) p s
    (λ a b h. set.contains-insert pair_cmp_total pairs (p, s) (a, b) ∙ or_right (eq_by_cmp pair_cmp (a, b) (p, s)) (set.contains pairs (a, b)) h)
    (set.contains-insert pair_cmp_total pairs (p, s) (p, s) ∙ or_left (eq_by_cmp pair_cmp (p, s) (p, s)) (set.contains pairs (p, s)) (ap is_eq (tied_itself pair_cmp_total (p, s))))
    (λ a b h. elim (or_cases (eq_by_cmp pair_cmp (a, b) (p, s)) (set.contains pairs (a, b)) (sym (set.contains-insert pair_cmp_total pairs (p, s) (a, b)) ∙ h)) [
      | inl e ↦ inl (pair_same a b p s e)
      | inr o ↦ inr o
    ])
    acyclic
