use Rattle.std.proofs.Common.{rules}
use Rattle.std.proofs.lemmas.List.Sorted.{answers_always}
use Rattle.plan_outlooks.specs.Standstills.{standstill_place}
use Rattle.plan_outlooks.proofs.StandstillsListed.{standstills_placed}
use Rattle.plan_outlooks.proofs.standstills.standstills.Goals as goal

pub returns-clause-rows : goal.returns-clause-rows
returns-clause-rows c = λ F lent.
    let sorted = c.in_ok-sort_by_key.ensures.sorted standstill_place (answers_always _ _ _ (λ f a r q k. search rules)) in
    standstills_placed F c.in_ok-rows.rows.items c.sort_by_key.new.self.items c.in_ok-sort_by_key.ensures.permutation (c.in_ok-rows.ensures.rows F lent) sorted
