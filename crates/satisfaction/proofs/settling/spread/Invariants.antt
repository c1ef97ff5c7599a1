use Rattle.std.proofs.Common.{◌≡◌, ◌+◌, ◌*◌, ◌≤◌, [], vec_len}
use Rattle.satisfaction.specs.Counters.{IsCascade, unsatisfied_count, waiting_count}
use Rattle.satisfaction.specs.Changes.{IsLowering}
use Rattle.satisfaction.specs.Journal.{IsJournaled}
use Rattle.satisfaction.proofs.settling.spread.Given as goal

abbrev pub invariant-loop-node : goal.invariant-loop-node
invariant-loop-node g l =
    let listed = g.R.Rules.listed in
    record {
      source : g.R.Rules.source l.rules ≡ g.R.Rules.source l.fn.rules;
      fewest : g.R.Rules.looks l.fn.rules ≤ g.R.Rules.looks l.rules;
      most : g.R.Rules.looks l.rules + waiting_count l.wait_states ≤ g.R.Rules.looks l.fn.rules + waiting_count l.fn.wait_states;
      rules : listed l.rules ≡ listed l.fn.rules;
      cascade : IsCascade l.graph (listed l.fn.rules) [] l.wait_states l.work.items [];
      places : IsLowering [] l.fn.wait_states l.fn.journal.items l.wait_states l.journal.items;
      journaled : IsJournaled l.fn.wait_states l.fn.journal.items l.wait_states l.journal.items;
    }

abbrev pub decreases-loop-node : goal.decreases-loop-node
decreases-loop-node g l = 2 * unsatisfied_count l.wait_states + vec_len l.work
