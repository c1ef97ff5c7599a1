-- Latest starts of operations of a plan, from those of their successors.
use Rattle.std.proofs.Common.{◌≡◌, ◌≢◌, refl, sym, ◌∙◌, ap, subst, true, List, [], ◌∷◌, pos, Some}
use Rattle.std.specs.Prelude.{ℤ, ◌-ℤ◌, ◌≤ℤ◌}
use Rattle.std.specs.FinMap.{get}
use Rattle.std.specs.FinSet.{contains, contains-from_list, from_list}
use Rattle.std.specs.List.{list_any}
use Rattle.std.specs.Ordering.{eq_by_cmp}
use Rattle.plan_basics.specs.declared.keys.OpKey.{OpKey}
use Rattle.status_rules.specs.declared.Mark.TheVariants as mark
use Rattle.plan_model.specs.Contents.{Contents, Operation, Precedes, pair_cmp}
use Rattle.plan_model.specs.Starts.{IsLatestStart}
use Rattle.plan_laws.proofs.Pairs.{pair_cmp_total}
use Rattle.worked_examples.proofs.Facts.{latest_of_last, latest_of_one}
use Rattle.worked_examples.proofs.Literal.{OneOf, afters, one_after, only}

-- without a successor
pub starts_last : (P : Contents) (o : OpKey) (op : Operation) → get P.operations o ≡ Some op → ((b : OpKey) → Precedes P o b → ⊥) → IsLatestStart P o (pos op.deadline -ℤ pos op.duration)
starts_last P o op is never = latest_of_last o op.duration op.deadline _ never (rw is refl) (rw is refl) refl

-- where the plan's pairs are written out
module _ (P : Contents) (pairs : List (OpKey × OpKey)) (written : P.pairs ≡ from_list pairs) (o : OpKey) (op : Operation) (is : get P.operations o ≡ Some op) where
  after_by : (c : OpKey) → Precedes P o c → OneOf (λ q. c ≡ q) (afters pairs o)
  after_by c h = one_after pairs o c (ap (λ ps. contains ps (o, c)) (sym written) ∙ h)

  -- without a successor there
  pub starts_at_end : afters pairs o ≡ [] → IsLatestStart P o (pos op.deadline -ℤ pos op.duration)
  starts_at_end none = starts_last P o op is (λ b h. subst (OneOf (λ q. b ≡ q)) none (after_by b h))

  -- with one successor
  pub starts_before : (b : OpKey) (after : Operation) (w : ℤ) → get P.operations b ≡ Some after → after.mark ≢ mark.Deleted → list_any (eq_by_cmp pair_cmp (o, b)) pairs ≡ true → afters pairs o ≡ b ∷ []
      → IsLatestStart P b w → w ≤ℤ pos op.deadline → IsLatestStart P o (w -ℤ pos op.duration)
  starts_before b after w found lives edge one next within =
      latest_of_one o b op.duration op.deadline _ w (ap (λ ps. contains ps (o, b)) written ∙ contains-from_list pair_cmp_total pairs (o, b) ∙ edge) (after, found, lives)
      (λ c h. only c b (subst (OneOf (λ q. c ≡ q)) one (after_by c h))) (rw is refl) (rw is refl) within next refl
