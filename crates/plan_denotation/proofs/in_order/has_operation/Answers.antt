use Rattle.std.proofs.Common.{rules}
use Rattle.std.proofs.lemmas.List.Sorted.{answers_always}
use Rattle.plan_basics.specs.Keys.{occurrence_cmp_total, occurrence_cmp-IsAntisymmetric}
use Rattle.plan_drafts.specs.PlanItems.{occurrence_of}
use Rattle.plan_drafts.proofs.Orders.{search_told_by}
use Rattle.plan_denotation.proofs.Terms.{by_occurrence}
use Rattle.plan_denotation.proofs.in_order.has_operation.Goals as goal

pub returns : goal.returns
returns c =
    rw c.is_ok.ensures.value
    (search_told_by occurrence_cmp_total occurrence_cmp-IsAntisymmetric occurrence_of c.args.keys.now c.args.occurrence.now c.binary_search_by_key.result c.binary_search_by_key.ensures.bound
    (c.binary_search_by_key.ensures.position occurrence_of (answers_always _ _ _ (λ f a r g k. search rules))) (by_occurrence c.args.keys.now c.requires))
