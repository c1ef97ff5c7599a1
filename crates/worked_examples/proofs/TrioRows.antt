-- The choices from three operations, and the step that one of them is part of.
use Rattle.std.proofs.Common.{arith, refl, [], ◌∷◌}
use Rattle.plan_model.specs.Ready.{IsChosen}
use Rattle.worked_examples.specs.Day.{evening, morning}
use Rattle.worked_examples.specs.Trio.{Terms, aaa, bbb, ccc, by_duration, by_fixed_resource, by_key, by_latest_start, by_priority, three, half_past_three, four, ten_past_four, terms}
use Rattle.worked_examples.specs.Statements.{ChoicesForTwoServers, ChoiceForFixedResource, TickThatNames}
use Rattle.worked_examples.proofs.Steps.{tick_names}
use Rattle.worked_examples.proofs.TrioChosen.{chosen_of}
use Rattle.worked_examples.proofs.TrioList.{arrives_then, found_at}

-- CCC's terms where two servers are wanted
abbrev urgent : Terms
urgent = terms 9 morning 30 0

-- CCC, and then BBB by its earlier latest start
latest_start_chosen : IsChosen by_latest_start evening (ccc ∷ bbb ∷ [])
latest_start_chosen = chosen_of (terms 5 four 30 0) (terms 5 half_past_three 30 0) urgent ccc bbb aaa (ccc ∷ bbb ∷ []) (grind arith)

-- CCC, and then BBB by its higher priority
priority_chosen : IsChosen by_priority evening (ccc ∷ bbb ∷ [])
priority_chosen = chosen_of (terms 4 four 30 0) (terms 6 four 30 0) urgent ccc bbb aaa (ccc ∷ bbb ∷ []) (grind arith)

-- CCC, and then AAA, which is shorter
duration_chosen : IsChosen by_duration evening (ccc ∷ aaa ∷ [])
duration_chosen = chosen_of (terms 5 four 30 0) (terms 5 ten_past_four 40 0) urgent ccc aaa bbb (ccc ∷ aaa ∷ []) (grind arith)

-- CCC, and then AAA by its key
key_chosen : IsChosen by_key evening (ccc ∷ aaa ∷ [])
key_chosen = chosen_of (terms 5 four 30 0) (terms 5 four 30 0) urgent ccc aaa bbb (ccc ∷ aaa ∷ []) (grind arith)

-- AAA and CCC, since BBB, between them, lacks R1
fixed_resource_chosen : IsChosen by_fixed_resource evening (aaa ∷ ccc ∷ [])
fixed_resource_chosen = chosen_of (terms 5 three 30 1) (terms 5 four 30 3) (terms 5 morning 30 1) aaa bbb ccc (aaa ∷ ccc ∷ []) (grind arith)

pub choices_for_two_servers : ChoicesForTwoServers
choices_for_two_servers = (latest_start_chosen, duration_chosen, key_chosen, priority_chosen)

pub choice_for_fixed_resource : ChoiceForFixedResource
choice_for_fixed_resource =
    let a = terms 5 three 30 1 in
    let b = terms 5 four 30 3 in
    let c = terms 5 morning 30 1 in
    (fixed_resource_chosen, arrives_then a b c (aaa ∷ ccc ∷ []) bbb b refl (found_at a b c bbb))

pub tick_that_names : TickThatNames
tick_that_names = tick_names by_latest_start evening (omega arith) (ccc ∷ bbb ∷ []) latest_start_chosen evening (omega arith)
