use Rattle.std.proofs.Common.{rules, subst}
use Rattle.std.proofs.lemmas.List.Sorted.{answers_always}
use Rattle.std.specs.List.Sorted.{IsPermutation, IsStableByKey}
use Rattle.board_pages.specs.Choices.{place, place_cmp}
use Rattle.board_pages.proofs.choices.by_spare.Goals as goal

pub returns : goal.returns
returns c =
    let sorted = c.sort_by_key.new.self.items in
    record {
      same = subst (λ rows. IsPermutation rows sorted) c.in_ok-sorted.ensures.items c.sort_by_key.ensures.permutation;
      in_order = c.in_ok-sort_by_key.ensures.sorted place (answers_always _ _ _ (λ f a r q k. search rules));
      stable = subst (λ rows. IsStableByKey place place_cmp rows sorted) c.in_ok-sorted.ensures.items (c.sort_by_key.ensures.stable place (answers_always _ _ _ (λ f a r q k. search rules)));
    }
