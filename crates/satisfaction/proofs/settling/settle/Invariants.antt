use Rattle.std.proofs.Common.{◌≡◌, ◌+◌, ◌≤◌, [], drop}
use Rattle.satisfaction.specs.Counters.{IsCascade, waiting_count}
use Rattle.satisfaction.specs.Changes.{IsLowering}
use Rattle.satisfaction.specs.Journal.{IsJournaled}
use Rattle.satisfaction.proofs.settling.settle.Given as goal

abbrev pub invariant-loop-node : goal.invariant-loop-node
invariant-loop-node g l =
    let listed = g.R.Rules.listed in
    record {
      rules : listed l.rules ≡ listed l.fn.rules;
      source : g.R.Rules.source l.rules ≡ g.R.Rules.source l.fn.rules;
      fewest : g.R.Rules.looks l.fn.rules ≤ g.R.Rules.looks l.rules;
      most : g.R.Rules.looks l.rules + waiting_count l.wait_states ≤ g.R.Rules.looks l.fn.rules + l.node-index + waiting_count l.fn.wait_states;
      cascade : IsCascade l.graph (listed l.fn.rules) (drop l.node-index l.changed) l.wait_states l.work.items [];
      places : IsLowering l.changed l.fn.wait_states l.fn.journal.items l.wait_states l.journal.items;
      journaled : IsJournaled l.fn.wait_states l.fn.journal.items l.wait_states l.journal.items;
    }
