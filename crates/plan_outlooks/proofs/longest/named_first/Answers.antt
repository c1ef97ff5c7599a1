use Rattle.std.proofs.Common.{rules, subst, ℕ}
use Rattle.std.proofs.lemmas.List.Sorted.{answers_always}
use Rattle.std.specs.List.Sorted.{IsPermutation, IsStableByKey}
use Rattle.std.specs.Ordering.{nat_cmp}
use Rattle.plan_outlooks.specs.Longest.{since_place}
use Rattle.plan_outlooks.specs.declared.rows.OperationOutlook.{OperationOutlook}
use Rattle.plan_outlooks.proofs.longest.named_first.Goals as goal

pub returns : goal.returns
returns c =
    let sorted = c.sort_by_key.new.self.items in
    let place : OperationOutlook → ℕ = λ r. since_place r.since in
    record {
      same = subst (λ rows. IsPermutation rows sorted) c.in_ok-named.ensures c.sort_by_key.ensures.permutation;
      in_order = c.in_ok-sort_by_key.ensures.sorted place (answers_always _ _ _ (λ f a r q k. search rules));
      stable = subst (λ rows. IsStableByKey place nat_cmp rows sorted) c.in_ok-named.ensures (c.sort_by_key.ensures.stable place (answers_always _ _ _ (λ f a r q k. search rules)));
    }
