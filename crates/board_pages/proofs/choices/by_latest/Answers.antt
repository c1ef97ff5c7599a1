use Rattle.std.proofs.Common.{rules, subst, ℤ}
use Rattle.std.proofs.lemmas.List.Sorted.{answers_always}
use Rattle.std.specs.List.Sorted.{IsPermutation, IsStableByKey}
use Rattle.std.specs.Ordering.{int_cmp}
use Rattle.forecast_texts.specs.plan_outlooks.specs.declared.rows.Standstill.{Standstill}
use Rattle.board_pages.proofs.choices.by_latest.Goals as goal

pub returns : goal.returns
returns c =
    let sorted = c.sort_by_key.new.self.items in
    let place : Standstill → ℤ = λ r. r.latest in
    record {
      same = subst (λ rows. IsPermutation rows sorted) c.in_ok-sorted.ensures c.sort_by_key.ensures.permutation;
      in_order = c.in_ok-sort_by_key.ensures.sorted place (answers_always _ _ _ (λ f a r q k. search rules));
      stable = subst (λ rows. IsStableByKey place int_cmp rows sorted) c.in_ok-sorted.ensures (c.sort_by_key.ensures.stable place (answers_always _ _ _ (λ f a r q k. search rules)));
    }
