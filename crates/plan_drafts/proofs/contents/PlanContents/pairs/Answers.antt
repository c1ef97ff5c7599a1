use Rattle.std.proofs.Common.{ap, sym, subst, ◌∙◌}
use Rattle.std.specs.FinSet.{from_list}
use Rattle.std.specs.List.Sorted.{IsStrictlySortedBy}
use Rattle.plan_model.specs.Contents.{pair_cmp}
use Rattle.plan_drafts.proofs.contents.PlanContents.pairs.Goals as goal

pub returns : goal.returns
returns c = record {
  pairs = ap (from_list {R = pair_cmp}) c.deref.ensures.value ∙ ap (λ v. v.pairs) c.self.view_is;
  in_order = subst (IsStrictlySortedBy pair_cmp) (sym c.deref.ensures.value) c.self.invariant.pairs;
}
