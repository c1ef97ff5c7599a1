use Rattle.std.proofs.lemmas.List.Sorted.{Contains-permutation, IsNonDecreasingBy-from_sort}
use Rattle.forecasting.proofs.Collected.{are_lasting}
use Rattle.forecasting.proofs.turns.lasting_turns.Goals as goal

pub returns-clause-ascending : goal.returns-clause-ascending
returns-clause-ascending c = IsNonDecreasingBy-from_sort (λ turn. turn) _ c.sort_unstable.ensures.sorted

pub returns-clause-lasting : goal.returns-clause-lasting
returns-clause-lasting c =
    are_lasting c.args.loaded.now c.args.from c.args.until c.new-turns.result.items c.add_openings.new.turns.items c.add_not_befores.new.turns.items
    c.new-turns.ensures.items c.in_ok-add_openings.ensures c.in_ok-add_not_befores.ensures _
    (λ k has. Contains-permutation _ _ k c.sort_unstable.ensures.permutation has)
