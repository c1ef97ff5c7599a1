use Rattle.std.proofs.Common.{rules}
use Rattle.std.proofs.lemmas.List.Sorted.{IsNonDecreasingBy-from_sort, answers_always}
use Rattle.plan_outlooks.specs.declared.lacks.Turn.{Turn}
use Rattle.plan_outlooks.proofs.Turning.{turns_are}
use Rattle.plan_outlooks.proofs.lacks.turns_of.Goals as goal

pub returns : goal.returns
returns c =
    let sorted = c.sort_by_key.new.self.items in
    turns_are c.args.loaded.now c.args.since.now c.args.done.now c.args.from c.in_ok-turns.turns.items sorted c.in_ok-turns.ensures c.in_ok-sort_by_key.ensures.permutation
    (IsNonDecreasingBy-from_sort (λ (t : Turn). t.at) sorted (c.in_ok-sort_by_key.ensures.sorted (λ (t : Turn). t.at) (answers_always _ _ _ (λ f a r q k. search rules))))
